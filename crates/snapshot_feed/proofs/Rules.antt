-- Which steps keep the rule over what is shown.
use Rattle.std.proofs.Common.{◌≡◌, ℕ, zero, suc, ◌≢◌, List, [], ◌∷◌, Option, None, set, refl, sym, ap, ◌∙◌, subst, ⊎_elim}
use Rattle.std.specs.Prelude.{Result, Ok, Err, MatchResult}
use mathlib.Core.Option.{some}
use lib.ListN.{get_elem?}
use Rattle.crossbeam_utils.specs.Register.{Admits, TurnsAt, Forks, Merges}
use Rattle.atomic_table.proofs.Lists.{at_set, at_snoc}
use Rattle.logbook.specs.Pages.{Book}
use Rattle.store_laws.specs.Snapshots.{blank, store_of}
use Rattle.event_book.specs.Rules.{Beginning}
use Rattle.event_book.specs.Publishing.{published_by}
use Rattle.snapshot_feed.specs.declared.entry.ReadTables.{ReadTables}
use Rattle.snapshot_feed.specs.declared.rule.Sight.{Sight}
use Rattle.snapshot_feed.specs.Showing.{IsShown}
use Rattle.snapshot_feed.specs.Shown.{ShowsWell, MayBeOf, IsOf, Keeps, SeesFront, looked_at}
use Rattle.snapshot_feed.proofs.Readings.{nothing_is_shown}

again : (b c : Book) (v : Option Beginning) → b ≡ c → MayBeOf c v → MayBeOf b v
again b c v same h = subst (λ d. MayBeOf d v) (sym same) h

-- nothing is known yet
abbrev pub unseen : Sight
unseen = record { front = None; looks = 0 }

-- the shown value goes from x to y, both of one list
pub turns : (x y : ReadTables) (seat : ℕ) (v : Sight) → ShowsWell y.tables y.front → y.front.book ≡ x.front.book
    → TurnsAt Keeps seat v x y SeesFront
turns x y seat v shows same views kept at = (
  looked_at y.front v,
  (
    shows,
    λ j u e. ⊎_elim (λ (t : (j ≡ seat) × (looked_at y.front v ≡ u)). subst (λ (w : Sight). MayBeOf y.front.book w.front) t.1 refl)
        (λ (t : (j ≢ seat) × (get_elem? views j ≡ some u)). again y.front.book x.front.book u.front same (kept.1 j u t.1))
        (at_set views seat j (looked_at y.front v) u e),
  ),
  (shows, again y.front.book x.front.book v.front same (kept.1 seat v at), refl),
)

pub admits : Admits Keeps unseen
admits x views kept = (
  kept.0,
  λ seat v at. ⊎_elim (λ h. kept.1 seat v h) (λ (e : unseen ≡ v). subst (λ (w : Sight). MayBeOf x.front.book w.front) e tt)
      (at_snoc views unseen v seat at),
)

set_kept : (x : ReadTables) (views : List Sight) (seat : ℕ) (v : Sight) → Keeps x views → MayBeOf x.front.book v.front
    → Keeps x (set views seat v)
set_kept x views seat v kept may = (
  kept.0,
  λ j u e. ⊎_elim (λ (t : (j ≡ seat) × (v ≡ u)). subst (λ (w : Sight). MayBeOf x.front.book w.front) t.1 may)
      (λ (t : (j ≢ seat) × (get_elem? views j ≡ some u)). kept.1 j u t.1)
      (at_set views seat j v u e),
)

-- a copy of what is known for another
pub forks : (seat : ℕ) (v : Sight) → Forks Keeps seat v v v
forks seat v x views kept at =
    let old = set_kept x views seat v kept (kept.1 seat v at) in (
      old.0,
      λ j u e. ⊎_elim (λ h. old.1 j u h)
          (λ (same : v ≡ u). subst (λ (w : Sight). MayBeOf x.front.book w.front) same (kept.1 seat v at))
          (at_snoc (set views seat v) v u j e),
    )

-- what another knows, in place of what one knew
pub merges : (seat : ℕ) (v : Sight) (other : ℕ) (w : Sight)
    → Merges Keeps seat v other w (record { front = w.front; looks = v.looks }) unseen
merges seat v other w x views kept at apart there =
    let both : Sight = record { front = w.front; looks = v.looks } in
    let known : MayBeOf x.front.book w.front = ⊎_elim (λ (t : (other ≡ seat) × (both ≡ w)). absurd (apart t.0))
    (λ (t : (other ≢ seat) × (get_elem? views other ≡ some w)). kept.1 other w t.1) (at_set views seat other both w there) in
    set_kept x (set views seat both) other unseen (set_kept x views seat both kept known) tt

-- the writer knows its list once it has published
pub knows : {X Y : Type 0} (r : Result X Y) (x y : ReadTables) (v w : Sight) → MatchResult r (λ _. SeesFront v x y w) (λ _. w ≡ v)
    → MatchResult r (λ _. IsOf y.front.book w.front) (λ _. w ≡ v)
knows (Ok z) x y v w h = subst (λ (u : Sight). IsOf y.front.book u.front) (sym h.2) refl
knows (Err e) x y v w h = h

-- ---- the first tables

pub first_shows : (t : ReadTables) → t.tables ≡ blank → t.front.list ≡ [] → ShowsWell t.tables t.front
first_shows t is none = (is ∙ ap (λ l. store_of (published_by l)) (sym none), subst IsShown (sym none) nothing_is_shown)

first_known : (b : Book) (seat : ℕ) (v : Sight) → get_elem? (unseen ∷ []) seat ≡ some v → MayBeOf b v.front
first_known b zero v at =
    let is : unseen ≡ v = cc (at) in subst (λ (w : Sight). MayBeOf b w.front) is tt
first_known b (suc n) v at = absurd (cc (at))

pub first_kept : (t : ReadTables) → t.tables ≡ blank → t.front.list ≡ [] → Keeps t (unseen ∷ [])
first_kept t is none = (first_shows t is none, first_known t.front.book)

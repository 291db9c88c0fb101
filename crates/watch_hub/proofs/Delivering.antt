-- What is told to a watch, found in what is kept.
use Rattle.std.proofs.Common.{◌≡◌, ◌≤◌, ℕ, List, [], ◌∷◌, filter, Bool, true, false, ◌&&◌, ◌||◌, cond, None, Some, refl, sym, ◌∙◌}
use Rattle.std.proofs.Common.{ap, subst, arith}
use Rattle.std.specs.Prelude.{nat_lt, nat_le, MatchBool, ⊤}
use Rattle.std.specs.List.{AllByRecursion, list_any}
use Rattle.std.proofs.lemmas.Bool.Decides.{nat_tests}
use Rattle.kv_model.specs.declared.version.Version.{Version}
use Rattle.kv_model.specs.Watches.{event_of, matches}
use Rattle.kv_model.specs.World.{World, Watch, revision, versions}
use Rattle.kv_model.specs.Watches.{Delivery, undelivered, last_revision, delivery_of, watch_delivery}
use Rattle.store_laws.specs.Stands.{Store, Tracked, TracksNext, Tracks, StandsFor, first_main_of}
use Rattle.store_laws.proofs.StandsWatches.{good-undelivered, good-told}
use Rattle.store_laws.proofs.TrimLaws.{Precedes, AreRising, rising-dress}
use Rattle.store_laws.proofs.CompactLaws.{map-same}
use Rattle.store_laws.proofs.RevOrder.{rev_lt-main}
use Rattle.watch_hub.specs.Delivering.{message_from, delivery_kept, delivery_from}

-- ---- the first match is the least

abbrev pub AreFrom : ℕ → List Version → Type 0
AreFrom m vs = AllByRecursion (λ v. m ≤ v.rev.main) vs

mains-from : (v : Version) (vs : List Version) → AllByRecursion (Precedes v) vs → AreFrom v.rev.main vs
mains-from v [] h = tt
mains-from v (w ∷ vs) h = (rev_lt-main v.rev w.rev h.0.0, mains-from v vs h.1)

from-later : (m n : ℕ) (vs : List Version) → n ≤ m → AreFrom m vs → AreFrom n vs
from-later m n [] l h = tt
from-later m n (v ∷ vs) l h = (let a = h.0 in omega arith, from-later m n vs l h.1)

-- the tests from two revisions on agree where all is behind both
same-from : (n m : ℕ) (q : Version → Bool) (vs : List Version) → AreFrom n vs → AreFrom m vs
    → filter (λ v. nat_le n v.rev.main && q v) vs ≡ filter (λ v. nat_le m v.rev.main && q v) vs
same-from n m q [] g h = refl
same-from n m q (v ∷ vs) g h =
    let left : nat_le n v.rev.main ≡ true = let a = g.0 in grind (arith, nat_tests) in
    let right : nat_le m v.rev.main ≡ true = let a = h.0 in grind (arith, nat_tests) in
    ap (λ b. cond (b && q v) (v ∷ filter (λ w. nat_le n w.rev.main && q w) vs) (filter (λ w. nat_le n w.rev.main && q w) vs))
    (left ∙ sym right)
    ∙ ap (λ ws. cond (nat_le m v.rev.main && q v) (v ∷ ws) ws) (same-from n m q vs g.1 h.1)

first-least : (n m : ℕ) (q : Version → Bool) (vs : List Version) → first_main_of (filter (λ v. nat_le n v.rev.main && q v) vs) ≡ Some m
    → n ≤ m
first-least n m q [] e = absurd (cc)
first-least n m q (v ∷ vs) e = by (first-least n m q vs) (nat_le n v.rev.main) refl (q v) e
  where
    by : (first_main_of (filter (λ w. nat_le n w.rev.main && q w) vs) ≡ Some m → n ≤ m) → (a : Bool) → nat_le n v.rev.main ≡ a → (b : Bool)
        → first_main_of (cond (a && b) (v ∷ filter (λ w. nat_le n w.rev.main && q w) vs) (filter (λ w. nat_le n w.rev.main && q w) vs))
        ≡ Some m → n ≤ m
    by later true f true e = let same : v.rev.main ≡ m = cc in grind (arith, nat_tests)
    by later true f false e = later e
    by later false f b e = later e

left-out : {X : Type 0} (a : Bool) (x y : X) → cond (a && false) x y ≡ y
left-out true x y = refl
left-out false x y = refl

-- from its first match on a watch matches what it matches from its next revision on
pub least : (n m : ℕ) (q : Version → Bool) (vs : List Version) → AreRising vs
    → first_main_of (filter (λ v. nat_le n v.rev.main && q v) vs) ≡ Some m
    → filter (λ v. nat_le m v.rev.main && q v) vs ≡ filter (λ v. nat_le n v.rev.main && q v) vs
least n m q [] r e = refl
least n m q (v ∷ vs) r e = by (least n m q vs r.1) (nat_le n v.rev.main) refl (q v) e
  where
    by : (first_main_of (filter (λ w. nat_le n w.rev.main && q w) vs) ≡ Some m
        → filter (λ w. nat_le m w.rev.main && q w) vs ≡ filter (λ w. nat_le n w.rev.main && q w) vs)
        → (a : Bool) → nat_le n v.rev.main ≡ a → (b : Bool)
        → first_main_of (cond (a && b) (v ∷ filter (λ w. nat_le n w.rev.main && q w) vs) (filter (λ w. nat_le n w.rev.main && q w) vs))
        ≡ Some m
        → cond (nat_le m v.rev.main && b) (v ∷ filter (λ w. nat_le m w.rev.main && q w) vs) (filter (λ w. nat_le m w.rev.main && q w) vs)
        ≡ cond (a && b) (v ∷ filter (λ w. nat_le n w.rev.main && q w) vs) (filter (λ w. nat_le n w.rev.main && q w) vs)
    by later true f true e =
        let same : v.rev.main ≡ m = cc in
        let here : nat_le m v.rev.main ≡ true = grind (arith, nat_tests) in
        let least_first : n ≤ m = grind (arith, nat_tests) in
        let from : AreFrom m vs = from-later v.rev.main m vs (omega arith) (mains-from v vs r.0) in
        ap (λ b. cond (b && true) (v ∷ filter (λ w. nat_le m w.rev.main && q w) vs) (filter (λ w. nat_le m w.rev.main && q w) vs)) here
        ∙ ap (λ ws. v ∷ ws) (same-from m n q vs from (from-later m n vs least_first from))
    by later true f false e = left-out (nat_le m v.rev.main) _ _ ∙ later e
    by later false f b e =
        let behind : n ≤ m = first-least n m q vs e in
        let below : nat_le m v.rev.main ≡ false = grind (arith, nat_tests) in
        ap (λ a. cond (a && b) (v ∷ filter (λ w. nat_le m w.rev.main && q w) vs) (filter (λ w. nat_le m w.rev.main && q w) vs)) below
        ∙ later e

each-filter : (P : Version → Type 0) (p : Version → Bool) (vs : List Version) → AllByRecursion P vs → AllByRecursion P (filter p vs)
each-filter P p [] h = tt
each-filter P p (v ∷ vs) h = by (each-filter P p vs h.1) (p v)
  where
    by : AllByRecursion P (filter p vs) → (b : Bool) → AllByRecursion P (cond b (v ∷ filter p vs) (filter p vs))
    by later true = (h.0, later)
    by later false = later

-- what passes a test begins with the least of it
matched-from : (m : ℕ) (p : Version → Bool) (vs : List Version) → AreRising vs → first_main_of (filter p vs) ≡ Some m
    → AreFrom m (filter p vs)
matched-from m p [] r e = tt
matched-from m p (v ∷ vs) r e = by (matched-from m p vs r.1) (p v) e
  where
    by : (first_main_of (filter p vs) ≡ Some m → AreFrom m (filter p vs)) → (b : Bool)
        → first_main_of (cond b (v ∷ filter p vs) (filter p vs)) ≡ Some m → AreFrom m (cond b (v ∷ filter p vs) (filter p vs))
    by later true e =
        let same : v.rev.main ≡ m = cc in
        (omega arith, each-filter (λ w. m ≤ w.rev.main) p vs (from-later v.rev.main m vs (omega arith) (mains-from v vs r.0)))
    by later false e = later e

none-below : (c : ℕ) (vs : List Version) → AreFrom c vs → list_any (λ (v : Version). nat_lt v.rev.main c) vs ≡ false
none-below c [] h = refl
none-below c (v ∷ vs) h =
    let above : nat_lt v.rev.main c ≡ false = let a = h.0 in grind (arith, nat_tests) in
    ap (λ b. b || list_any (λ (w : Version). nat_lt w.rev.main c) vs) above ∙ none-below c vs h.1

-- ---- a delivery

module _ (kept ds : List Version) (c : ℕ) (x : Watch) (rising : AreRising ds)
    (alike : AreFrom c (undelivered ds x)
    → AllByRecursion (λ v. event_of kept c x.watched v ≡ event_of ds c x.watched v) (undelivered ds x))
    (same : (m : ℕ) → c ≤ m → filter (λ v. nat_le m v.rev.main && matches x.watched v) kept
    ≡ filter (λ v. nat_le m v.rev.main && matches x.watched v) ds) where
  told : (us : List Version) → undelivered ds x ≡ us → delivery_of ds c x us ≡ delivery_from kept c x.watched (first_main_of us)
  told [] e = refl
  told (u ∷ us) e = by (nat_lt u.rev.main c) refl
    where
      first : first_main_of (undelivered ds x) ≡ Some u.rev.main
      first = ap first_main_of e

      from : AreFrom u.rev.main (u ∷ us)
      from = subst (λ vs. AreFrom u.rev.main vs) e (matched-from u.rev.main
          (λ v. nat_le x.next v.rev.main && matches x.watched v) ds rising first)

      by : (b : Bool) → nat_lt u.rev.main c ≡ b
          → cond (b || list_any (λ (v : Version). nat_lt v.rev.main c) us) (Delivery.cancelled c)
          (Delivery.events (message_from ds c x.watched (u ∷ us)))
          ≡ cond b (Delivery.cancelled c) (Delivery.events
          (message_from kept c x.watched (filter (λ v. nat_le u.rev.main v.rev.main && matches x.watched v) kept)))
      by true f = refl
      by false f =
          let after : c ≤ u.rev.main = grind (arith, nat_tests) in
          let all_from : AreFrom c (u ∷ us) = from-later u.rev.main c (u ∷ us) after from in
          let events : AllByRecursion (λ v. event_of kept c x.watched v ≡ event_of ds c x.watched v) (u ∷ us)
          = subst (AllByRecursion (λ v. event_of kept c x.watched v ≡ event_of ds c x.watched v)) e
          (alike (subst (AreFrom c) (sym e) all_from)) in
          let back : u ∷ us ≡ filter (λ v. nat_le u.rev.main v.rev.main && matches x.watched v) kept
          = sym e ∙ sym (least x.next u.rev.main (matches x.watched) ds rising first) ∙ sym (same u.rev.main after) in
          ap (λ b. cond b (Delivery.cancelled c) (Delivery.events (message_from ds c x.watched (u ∷ us))))
          (none-below c us (from-later u.rev.main c us after from.1))
          ∙ ap Delivery.events (sym (map-same (event_of kept c x.watched) (event_of ds c x.watched)
          (filter (λ z. nat_le z.rev.main (last_revision (u ∷ us))) (u ∷ us))
          (each-filter (λ v. event_of kept c x.watched v ≡ event_of ds c x.watched v) (λ z. nat_le z.rev.main (last_revision (u ∷ us)))
          (u ∷ us) events)))
          ∙ ap (λ zs. Delivery.events (message_from kept c x.watched zs)) back

-- what the hub holds of a watch and what is kept tell the delivery that the whole history tells
pub delivery_stands : (s : Store) (w : World) → StandsFor s w → (t : Tracked) (x : Watch) → Tracks (versions w) (revision w) t x
    → watch_delivery (versions w) w.compacted x ≡ delivery_kept s.versions s.compacted t
delivery_stands s w h t x k = by x.late refl
  where
    by : (b : Bool) → x.late ≡ b → cond b (Delivery.cancelled w.compacted)
        (delivery_of (versions w) w.compacted x (undelivered (versions w) x)) ≡ delivery_kept s.versions s.compacted t
    by true e = ap Delivery.cancelled (sym h.compacted)
        ∙ ap (λ b. cond b (Delivery.cancelled s.compacted) (delivery_from s.versions s.compacted t.watched t.first)) (sym (k.late ∙ e))
    by false e =
        let next : TracksNext (versions w) (revision w) t x
        = subst (λ b. MatchBool b ⊤ (TracksNext (versions w) (revision w) t x)) e k.next in
        told s.versions (versions w) w.compacted x (rising-dress w.mutations h.sound.history)
        (λ from. good-told s.versions w.mutations w.compacted x h.good h.sound.history from)
        (λ m l. good-undelivered s.versions w.mutations w.compacted (record x { next = m }) h.good h.sound.history l)
        (undelivered (versions w) x) refl
        ∙ (λ i. delivery_from s.versions (sym h.compacted i) (sym k.watched i) (sym next.first i))
        ∙ ap (λ b. cond b (Delivery.cancelled s.compacted) (delivery_from s.versions s.compacted t.watched t.first)) (sym (k.late ∙ e))

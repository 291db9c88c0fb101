-- The keys of a lease: that the index has them.
use Rattle.std.proofs.Common.{◌≡◌, ◌≤◌, ◌<◌, ◌^◌, ℕ, List, [], ◌∷◌, ◌++◌, true, Option, refl, sym, ◌∙◌, ap, subst, append-nil, arith}
use Rattle.std.specs.List.{AllByRecursion}
use Rattle.kv_model.specs.declared.version.Version.{Version}
use Rattle.kv_model.specs.History.{KeyValue, value_at, value_now, end_of, rev_le}
use Rattle.kv_model.specs.Step.{last_main}
use Rattle.store_laws.proofs.PlaceLaws.{rev_le-end, value_at-by}
use Rattle.lease_keys.specs.Pairs.{Pairs}
use Rattle.lease_keys.specs.Holding.{AreJust, Holds, is_of, lease_held}
use Rattle.range_view.specs.Stored.{Stored, IsStored, blank_at}
use Rattle.request_core.specs.State.{CoreState, IsSound, with_any}

-- ---- places

both : {X : Type 0} (P Q R : X → Type 0) → ((x : X) → P x → Q x → R x) → (xs : List X) → AllByRecursion P xs → AllByRecursion Q xs → AllByRecursion R xs
both P Q R f [] p q = tt
both P Q R f (x ∷ xs) p q = (f x p.0 q.0, both P Q R f xs p.1 q.1)

-- what is stored stands by the end of the present revision
pub all-reached : (t : Stored) → IsStored t → IsSound t → AllByRecursion (λ v. rev_le v.rev (end_of t.revision) ≡ true) t.versions
all-reached t stored sound = both (λ (v : Version). v.rev.main ≤ t.revision) (λ v. v.rev.sub < 2 ^ 64) (λ v. rev_le v.rev (end_of t.revision) ≡ true)
    (λ v main sub. rev_le-end v.rev t.revision main sub) t.versions stored.upto sound.places

-- so the index has what is seen there
pub holds-seen : (ps : Pairs) (t : Stored) → IsStored t → IsSound t → Holds ps (value_now t.versions) → Holds ps (value_at t.versions (end_of t.revision))
holds-seen ps t stored sound h k kv e = h k kv (sym (value_at-by t.versions (end_of t.revision) k (all-reached t stored sound)) ∙ e)

-- an index of what keys hold is one of what they hold otherwise told
pub just-same : (ps : Pairs) (f g : List ℕ → Option KeyValue) → ((k : List ℕ) → f k ≡ g k) → AreJust ps f → AreJust ps g
just-same ps f g e just l k = just l k ∙ ap (λ o. is_of l (lease_held o)) (e k)

-- before the first version there is nothing to have
pub blank-sound : (r : ℕ) (ps : Pairs) → r ≤ last_main → ps ≡ [] → IsSound (blank_at r) × AreJust ps (value_now (blank_at r).versions)
unfolding value_now
blank-sound r ps h e = (
  record { fits = h; places = tt; counted = tt; floor = omega arith; trimmed = tt },
  subst (λ qs. AreJust qs (value_now (blank_at r).versions)) (sym e) (λ l k. refl),
)

-- ---- growth

pub any-versions : (s : CoreState) (vs : List Version) → (with_any s vs).store.versions ≡ s.store.versions ++ vs
any-versions s [] = sym (append-nil s.store.versions)
any-versions s (v ∷ vs) = refl

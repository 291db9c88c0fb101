-- The index of leases as versions are appended, and as they are taken back.
use Rattle.std.proofs.Common.{◌≡◌, ◌<◌, ◌+◌, ◌-◌, ℕ, List, ◌++◌, false, ◌||◌, ◌&&◌, not, Option, is_none, filter}
use Rattle.std.proofs.Common.{sym, ◌∙◌, ap, subst, arith, eqb-true}
use Rattle.std.specs.Prelude.{◌==◌, nat_le, true}
use Rattle.std.specs.List.{list_any}
use Rattle.kv_model.specs.declared.version.Version.{Version}
use Rattle.kv_model.specs.Keys.{same_key}
use Rattle.kv_model.specs.History.{KeyValue, value_at, value_now, end_of, rev_le}
use Rattle.kv_model.specs.Step.{last_main}
use Rattle.store_laws.proofs.PlaceLaws.{AreBehind, each-map, rev_le-after, value_at-behind, value_at-by}
use Rattle.lease_keys.specs.Pairs.{Pairs, has_pair}
use Rattle.lease_keys.specs.Holding.{is_of, lease_of, lease_held, under}
use Rattle.lease_keys.specs.Holding.{AreJust, ArePut, ArePartlyPut, AreSettled, AreTakenBack}
use Rattle.lease_keys.proofs.Just.{just-settled, just-taken_back}
use Rattle.range_view.specs.Stored.{AreOf, IsStored, Stored, appended}
use Rattle.range_view.proofs.Growing.{next-of}
use Rattle.request_core.specs.Writing.{AreNext}
use Rattle.request_core.specs.State.{IsSound, newest}
use Rattle.request_core.proofs.Kept.{newest-appended, next-main, sound-appended}
use Rattle.request_core.proofs.Leased.{all-reached, just-same}

module _ (t : Stored) (vs : List Version) (stored : IsStored t) (sound : IsSound t) (next : AreNext t.revision vs) where
  abbrev whole : Stored
  whole = appended t vs

  risen : whole.revision ≡ t.revision + 1
  risen = next-main t.revision vs next

  of : AreOf (t.revision + 1) vs
  of = next-of t.revision vs next.next

  newest-is : newest whole ≡ vs
  newest-is = ap (λ n. filter (λ (v : Version). nat_le n v.rev.main) (t.versions ++ vs)) risen
      ∙ newest-appended t.revision t.versions vs stored.upto of

  behind : AreBehind (end_of t.revision) vs
  behind = each-map (λ (v : Version). (v.rev.main == t.revision + 1) ≡ true) (λ v. rev_le v.rev (end_of t.revision) ≡ false)
      (λ v e. let same : v.rev.main ≡ t.revision + 1 = eqb-true v.rev.main (t.revision + 1) e in
      rev_le-after v.rev (end_of t.revision) (omega (arith, same))) vs of

  -- what a key held before them
  before : (k : List ℕ) → value_at whole.versions (end_of (whole.revision - 1)) k ≡ value_now t.versions k
  before k =
      let back : whole.revision - 1 ≡ t.revision = omega (arith, risen) in
      ap (λ n. value_at (t.versions ++ vs) (end_of n) k) back
      ∙ value_at-behind t.versions vs (end_of t.revision) k behind
      ∙ value_at-by t.versions (end_of t.revision) k (all-reached t stored sound)

  -- where they are taken back, the index has just what it had
  taken-back-just : (old mid new : Pairs) → AreJust old (value_now t.versions) → ArePartlyPut vs old mid
      → AreTakenBack (newest whole) (value_at whole.versions (end_of (whole.revision - 1))) mid new
      → AreJust new (value_now t.versions)
  taken-back-just old mid new just partly back =
      let seen : List ℕ → Option KeyValue = value_at whole.versions (end_of (whole.revision - 1)) in
      just-same new seen (value_now t.versions) before
      (just-taken_back (newest whole) seen old mid new (just-same old (value_now t.versions) seen (λ k. sym (before k)) just)
      (subst (λ us. ArePartlyPut us old mid) (sym newest-is) partly) back)

  settled-same : (us : List Version) (f g p q : List ℕ → Option KeyValue) (mid new : Pairs) → ((k : List ℕ) → f k ≡ g k)
      → ((k : List ℕ) → p k ≡ q k) → AreSettled us f p mid new → AreSettled us g q mid new
  settled-same us f g p q mid new e h settled l k = settled l k
      ∙ λ i. has_pair l k mid && not (list_any (λ v. same_key v.key k && (is_of l (lease_of v.body) || is_of l (lease_held (e k i)))) us
      && is_none (under l (h k i)))

  -- where they stand, and what they replaced is gone, it has just what the keys hold now
  settled-just : (old mid new : Pairs) → t.revision < last_main → IsStored whole → AreJust old (value_now t.versions)
      → ArePut vs old mid
      → AreSettled (newest whole) (value_at whole.versions (end_of (whole.revision - 1))) (value_at whole.versions (end_of whole.revision)) mid new
      → AreJust new (value_now whole.versions)
  settled-just old mid new room risen-stored just put settled =
      let now = λ (k : List ℕ). value_at-by whole.versions (end_of whole.revision) k
      (all-reached whole risen-stored (sound-appended t vs sound room next)) in
      just-settled t.versions vs old mid new just put
      (settled-same vs (value_at whole.versions (end_of (whole.revision - 1))) (value_now t.versions)
      (value_at whole.versions (end_of whole.revision)) (value_now whole.versions) mid new before now
      (subst (λ us. AreSettled us (value_at whole.versions (end_of (whole.revision - 1))) (value_at whole.versions (end_of whole.revision)) mid new)
      newest-is settled))

-- versions that come to tables beside an index that has just what it must
pub record IsGrown (t : Stored) (vs : List Version) (old : Pairs) (held : List ℕ → Option KeyValue) : Type 0 where
  pub stored : IsStored t
  pub sound : IsSound t
  pub next : AreNext t.revision vs
  pub just : AreJust old held

-- in the form that an append cites where the sink takes nothing
pub taken-grown : (t : Stored) (vs : List Version) (u : Stored) (old mid new : Pairs) → IsGrown t vs old (value_now t.versions)
    → u ≡ appended t vs → ArePartlyPut vs old mid
    → AreTakenBack (newest u) (value_at u.versions (end_of (u.revision - 1))) mid new → AreJust new (value_now t.versions)
taken-grown t vs u old mid new grown e partly back =
    taken-back-just t vs grown.stored grown.sound grown.next old mid new grown.just
    partly
    (subst (λ (s : Stored). AreTakenBack (newest s) (value_at s.versions (end_of (s.revision - 1))) mid new) e back)

-- and where it has taken them
pub settled-grown : (t : Stored) (vs : List Version) (u : Stored) (old mid new : Pairs) → IsGrown t vs old (value_now t.versions)
    → t.revision < last_main → u ≡ appended t vs → IsStored u → ArePut vs old mid
    → AreSettled (newest u) (value_at u.versions (end_of (u.revision - 1))) (value_at u.versions (end_of u.revision)) mid new
    → AreJust new (value_now u.versions)
settled-grown t vs u old mid new grown room e stored put settled =
    subst (λ (s : Stored). AreJust new (value_now s.versions)) (sym e)
    (settled-just t vs grown.stored grown.sound grown.next old mid new room (subst IsStored e stored) grown.just
    put
    (subst (λ (s : Stored). AreSettled (newest s) (value_at s.versions (end_of (s.revision - 1))) (value_at s.versions (end_of s.revision)) mid new) e settled))

-- Certificates without needs of previous values, as those are that were written in format 1 of the text.
use Rattle.std.specs.Prelude.{◌≡◌, ℕ, nat_lt, List, Bool, true, false}
use Rattle.std.specs.List.{AllByRecursion}
use Rattle.kv_model.specs.Watches.{before_is_kept}
use Rattle.kv_model.specs.Certificates.{AreNeedsBy, Claim, Dump, Need}

-- the need is of a previous value
abbrev pub is_previous : Need → Bool
is_previous (Need.range r) = false
is_previous (Need.watch r) = false
is_previous (Need.prev r) = true

abbrev pub HasNoPrevious : List Claim → Type 0
HasNoPrevious = AllByRecursion (λ claim. is_previous claim.need ≡ false)

-- the test of previous values as it was then: the revision before the event's is not compacted
abbrev pub before_was_kept : ℕ → ℕ → Bool
before_was_kept c r = nat_lt c r

-- each listed version has its claimed need in the list, by the test as it was and as it is
pub record AreNeedsByEither (d : Dump) (claims : List Claim) : Type 0 where
  pub before : AreNeedsBy before_was_kept d.floor d.revision d.versions d.versions claims
  pub now : AreNeedsBy before_is_kept d.floor d.revision d.versions d.versions claims

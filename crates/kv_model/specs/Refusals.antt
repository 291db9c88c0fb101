-- The numbers of refusals.
use Rattle.std.specs.Prelude.{ℕ}
use Rattle.kv_model.specs.declared.refusal.Refusal.{Refusal}
use Rattle.kv_model.specs.declared.refusal.Refusal.TheVariants.{Memory, Compacted, Future, NoKey, TooManyOps}
use Rattle.kv_model.specs.declared.refusal.Refusal.TheVariants.{DuplicateKey, ValueGiven, LeaseGiven, TooDeep}
use Rattle.kv_model.specs.declared.refusal.Refusal.TheVariants.{KeyMissing, LeaseMissing, LeaseExists, TtlTooLarge}
use Rattle.kv_model.specs.declared.refusal.Refusal.TheVariants.{TooManyLeases, TooManyWatches, NoWatch, RevisionsSpent}
use Rattle.kv_model.specs.declared.refusal.Refusal.TheVariants.{NoPlace}

-- each refusal has a number, which stays whatever is added
abbrev pub number_of : Refusal → ℕ
number_of Memory = 1
number_of (Compacted r) = 2
number_of (Future r) = 3
number_of NoKey = 4
number_of TooManyOps = 5
number_of DuplicateKey = 6
number_of ValueGiven = 7
number_of LeaseGiven = 8
number_of TooDeep = 9
number_of KeyMissing = 10
number_of LeaseMissing = 11
number_of LeaseExists = 12
number_of TtlTooLarge = 13
number_of TooManyLeases = 14
number_of TooManyWatches = 15
number_of NoWatch = 16
number_of RevisionsSpent = 17
number_of NoPlace = 18

use Rattle.std.proofs.Common.{inl, inr, refl}
use Rattle.std.specs.Fmt.{digits}
use Rattle.json.specs.Print.{escape_byte}
use Rattle.kv_model.specs.Answers.{fault_text}
use Rattle.gateway_text.proofs.refusal_bodies.refusal_body.Goals as goal

pub returns-in-Memory : goal.returns-in-Memory
returns-in-Memory c = rw c.in-Memory.is c.memory_text.ensures

pub returns-in-Compacted : goal.returns-in-Compacted
unfolding fault_text escape_byte digits
returns-in-Compacted c = rw c.in-Compacted.is refl

pub returns-in-Future : goal.returns-in-Future
unfolding fault_text escape_byte digits
returns-in-Future c = rw c.in-Future.is refl

pub returns-in-NoKey : goal.returns-in-NoKey
unfolding fault_text escape_byte digits
returns-in-NoKey c = rw c.in-NoKey.is refl

pub returns-in-TooManyOps : goal.returns-in-TooManyOps
unfolding fault_text escape_byte digits
returns-in-TooManyOps c = elim c.in-TooManyOps.is [ inl h ↦ rw h refl | inr h ↦ rw h refl ]

pub returns-in-DuplicateKey : goal.returns-in-DuplicateKey
unfolding fault_text escape_byte digits
returns-in-DuplicateKey c = rw c.in-DuplicateKey.is refl

pub returns-in-ValueGiven : goal.returns-in-ValueGiven
unfolding fault_text escape_byte digits
returns-in-ValueGiven c = rw c.in-ValueGiven.is refl

pub returns-in-LeaseGiven : goal.returns-in-LeaseGiven
unfolding fault_text escape_byte digits
returns-in-LeaseGiven c = rw c.in-LeaseGiven.is refl

pub returns-in-KeyMissing : goal.returns-in-KeyMissing
unfolding fault_text escape_byte digits
returns-in-KeyMissing c = rw c.in-KeyMissing.is refl

pub returns-in-LeaseMissing : goal.returns-in-LeaseMissing
unfolding fault_text escape_byte digits
returns-in-LeaseMissing c = rw c.in-LeaseMissing.is refl

pub returns-in-LeaseExists : goal.returns-in-LeaseExists
unfolding fault_text escape_byte digits
returns-in-LeaseExists c = rw c.in-LeaseExists.is refl

pub returns-in-TtlTooLarge : goal.returns-in-TtlTooLarge
unfolding fault_text escape_byte digits
returns-in-TtlTooLarge c = rw c.in-TtlTooLarge.is refl

pub returns-in-TooManyLeases : goal.returns-in-TooManyLeases
unfolding fault_text escape_byte digits
returns-in-TooManyLeases c = rw c.in-TooManyLeases.is refl

pub returns-in-TooManyWatches : goal.returns-in-TooManyWatches
unfolding fault_text escape_byte digits
returns-in-TooManyWatches c = rw c.in-TooManyWatches.is refl

pub returns-in-NoWatch : goal.returns-in-NoWatch
unfolding fault_text escape_byte digits
returns-in-NoWatch c = rw c.in-NoWatch.is refl

pub returns-in-RevisionsSpent : goal.returns-in-RevisionsSpent
unfolding fault_text escape_byte digits
returns-in-RevisionsSpent c = rw c.in-RevisionsSpent.is refl

pub returns-in-NoPlace : goal.returns-in-NoPlace
unfolding fault_text escape_byte digits
returns-in-NoPlace c = rw c.in-NoPlace.is refl

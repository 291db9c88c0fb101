-- How a command or a request ends, by what was made of its answer or refusal.
use Rattle.std.proofs.Common.{◌≡◌, ℕ, Bool, true, false, Result, Ok, Err, IfOk, Vec, Global, refl, sym}
use Rattle.std.specs.declared.alloc.AllocError.{AllocError}
use Rattle.kv_model.specs.Answers.{Fault, Response, refused}
use Rattle.json_gateway.specs.declared.outcome.Settled.{Settled}
use Rattle.json_gateway.specs.Endings.{Refuses, Settles, answered, worded}

pub answer_settles : (made : Result (Vec ℕ Global) AllocError) (s : Settled) (answer : Response) (changed : Bool) (now : ℕ) → answer.status ≡ 200
    → IfOk made (λ v. v.items ≡ answer.body) → s ≡ answered made changed now → Settles s answer changed now
answer_settles (Ok v) s answer changed now good body is = rw is (λ i. record { status = sym good i; body = body i })
answer_settles (Err e) s answer true now good body is = rw is (refl, refl)
answer_settles (Err e) s answer false now good body is = rw is refl

pub wording_refuses : (made : Result (Vec ℕ Global) AllocError) (s : Settled) (fault : Fault)
    → IfOk made (λ v. v.items ≡ (refused fault).body) → s ≡ worded (refused fault).status made → Refuses s false fault
wording_refuses (Ok v) s fault body is = rw is (refl, λ i. record { status = (refused fault).status; body = body i })
wording_refuses (Err e) s fault body is = rw is tt

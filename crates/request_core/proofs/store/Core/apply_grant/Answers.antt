use Rattle.std.proofs.Common.{◌∙◌, rules}
use Rattle.std.specs.Int.{w64}
use Rattle.std.specs.Int.RustNames.{FitsSigned}
use Rattle.std.proofs.lemmas.Int.{to_z-of_z}
use Rattle.request_core.proofs.Leases.{grant_done, grant_refuses}
use Rattle.request_core.proofs.store.Core.apply_grant.Goals as goal

pub returns-in-Ok-clause-done : goal.returns-in-Ok-clause-done
returns-in-Ok-clause-done c =
    let made = rw (to_z-of_z w64 c.args.id c.ranges.id, to_z-of_z w64 c.args.ttl c.ranges.ttl) at c.in-Ok.ensures.made in
    let answer = rw (to_z-of_z w64 c.args.id c.ranges.id, to_z-of_z w64 c.args.ttl c.ranges.ttl) at c.in-Ok.ensures.answer in
    let fits : FitsSigned w64 c.in-Ok.granted.id = search rules in
    let id_is = to_z-of_z w64 c.in-Ok.granted.id fits ∙ answer.0 in
    grant_done c.args.self.now c.grant.new.self c.args.ttl c.args.id _ _
    (record { clear = made.0; made = made.1; id_is = id_is; ttl_is = answer.1 })

pub returns-in-Err-clause-refused : goal.returns-in-Err-clause-refused
returns-in-Err-clause-refused c = grant_refuses c.args.self.now c.grant.new.self c.args.ttl c.args.id c.in-Err.refusal
    (rw (to_z-of_z w64 c.args.id c.ranges.id, to_z-of_z w64 c.args.ttl c.ranges.ttl) at c.in-Err.ensures.refused) c.in-Err.ensures.err

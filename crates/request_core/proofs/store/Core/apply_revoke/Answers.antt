use Rattle.std.proofs.Common.{rules}
use Rattle.std.proofs.lemmas.Int.{to_z-of_z}
use Rattle.std.specs.Int.{w64}
use Rattle.request_core.proofs.Revokes.{revoke_done, revoke_refuses}
use Rattle.request_core.proofs.store.Core.apply_revoke.Goals as goal

pub returns-in-Ok-clause-done : goal.returns-in-Ok-clause-done
returns-in-Ok-clause-done g c =
    let made = rw (to_z-of_z w64 c.args.id c.ranges.id) at c.in-Ok.ensures.made in
    let counted = rw (to_z-of_z w64 c.args.id c.ranges.id) at c.in-Ok.ensures.counted in
    revoke_done c.args.self.now c.revoke.new.self c.args.id _ (record {
      clear = made.0;
      made = made.1;
      counted = counted;
      few = search rules;
    })

pub returns-in-Err-clause-refused : goal.returns-in-Err-clause-refused
returns-in-Err-clause-refused g c = revoke_refuses c.args.self.now c.revoke.new.self c.args.id c.in-Err.refusal
    (rw (to_z-of_z w64 c.args.id c.ranges.id) at c.in-Err.ensures.refused) c.in-Err.ensures.err.0

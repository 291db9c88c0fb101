use Rattle.std.specs.Int.{w64}
use Rattle.std.proofs.lemmas.Int.{to_z-of_z}
use Rattle.request_core.proofs.Compacting.{compact_done, compact_refuses}
use Rattle.request_core.proofs.store.Core.apply_compact.Goals as goal

pub returns-in-Ok-clause-done : goal.returns-in-Ok-clause-done
returns-in-Ok-clause-done g c =
    let allowed = rw (to_z-of_z w64 c.args.revision c.ranges.revision) at c.in-Ok.ensures.allowed in
    let made = rw (to_z-of_z w64 c.args.revision c.ranges.revision) at c.in-Ok.ensures.made in
    compact_done c.args.self.now c.compact.new.self c.args.revision c.args.physical allowed made

pub returns-in-Err-clause-refused : goal.returns-in-Err-clause-refused
returns-in-Err-clause-refused g c =
    let refused = rw (to_z-of_z w64 c.args.revision c.ranges.revision) at c.in-Err.ensures.refused in
    compact_refuses g.S.Sink.never_fails c.args.self.now c.compact.new.self c.args.revision c.args.physical c.in-Err.refusal refused
    c.in-Err.ensures.free c.in-Err.ensures.err.0

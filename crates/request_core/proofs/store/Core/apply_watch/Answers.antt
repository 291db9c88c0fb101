use Rattle.std.specs.Int.{w64}
use Rattle.std.proofs.lemmas.Int.{to_z-of_z}
use Rattle.request_core.proofs.Watching.{watch_done, watch_refuses}
use Rattle.request_core.proofs.store.Core.apply_watch.Goals as goal

pub returns-in-Ok-clause-done : goal.returns-in-Ok-clause-done
returns-in-Ok-clause-done c =
    let made = rw (to_z-of_z w64 c.args.start c.ranges.start, to_z-of_z w64 c.args.id c.ranges.id) at c.in-Ok.ensures.made in
    rw (to_z-of_z w64 c.args.id c.ranges.id) (
    watch_done c.args.self.now c.watch.new.self c.args.watched.now c.args.start c.args.id c.in-Ok.number
    (record { clear = c.in-Ok.ensures.allowed; made = made; number_is = c.in-Ok.ensures.number })
    )

pub returns-in-Err-clause-refused : goal.returns-in-Err-clause-refused
returns-in-Err-clause-refused c = watch_refuses c.args.self.now c.watch.new.self c.args.watched.now c.args.start c.args.id c.in-Err.refusal
    c.in-Err.ensures.refused c.in-Err.ensures.err

use Rattle.std.proofs.Common.{sym}
use Rattle.request_core.proofs.Ranges.{range_done, range_refuses}
use Rattle.request_core.proofs.store.Core.apply_range.Goals as goal

pub returns-in-Some-clause-refused : goal.returns-in-Some-clause-refused
returns-in-Some-clause-refused c = range_refuses c.args.self.now c.args.query.now c.in-Some.refusal (sym c.in-Some.ensures)

pub returns-in-None-clause-done : goal.returns-in-None-clause-done
returns-in-None-clause-done c = range_done c.args.self.now _ (sym c.in-None.ensures)

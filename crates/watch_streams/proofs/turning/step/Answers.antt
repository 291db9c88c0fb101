use Rattle.watch_streams.specs.Turns.{Steps}
use Rattle.watch_streams.proofs.Exact.{told_or_ended}
use Rattle.watch_streams.proofs.turning.step.Goals as goal

pub returns-in-Told : goal.returns-in-Told
returns-in-Told g c = told_or_ended _ _ _ _ _ _ c.in-Told.is c.tell.ensures

pub returns-in-Quiet : goal.returns-in-Quiet
returns-in-Quiet g c = Steps.quiet c.in-Quiet.ensures

pub returns-in-Wanting : goal.returns-in-Wanting
returns-in-Wanting g c = Steps.wanting c.in-Wanting.ensures

pub returns-in-Cut : goal.returns-in-Cut
returns-in-Cut g c = Steps.cut c.in-Cut.ensures

pub returns-in-Waits : goal.returns-in-Waits
returns-in-Waits g c = Steps.sent c.in-Waits.ensures c.sent.ensures

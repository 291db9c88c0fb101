use Rattle.std.proofs.Common.{IfErr, ap, subst}
use Rattle.commands.specs.Script.{line_events}
use Rattle.engine_lock.specs.Locked.{EngineState}
use Rattle.command_line.specs.From.{StopsBeginning}
use Rattle.command_line.proofs.from.begin.Goals as goal

pub returns-in-Ok-clause-fault : goal.returns-in-Ok-clause-fault
returns-in-Ok-clause-fault g c =
    let read = subst (λ t. IfErr c.went_on.result (StopsBeginning c.in-Ok.begun.engine.ids (line_events t))) c.as_slice.ensures.value c.went_on.ensures.fault in
    subst (λ ids. IfErr c.went_on.result (StopsBeginning ids (line_events c.args.script.items))) (ap (λ (s : EngineState). s.ids) c.in-Ok.ensures.engine) read

use Rattle.std.proofs.Common.{ap}
use Rattle.std.proofs.lemmas.Result.{IfErr-weaker}
use Rattle.commands.specs.Script.{line_events}
use Rattle.command_line.proofs.Beginning.{without_lines}
use Rattle.command_line.proofs.serving.serve_on.Goals as goal

pub returns-clause-fault : goal.returns-clause-fault
returns-clause-fault g c = IfErr-weaker c.serve_by.result _ _
    (λ f stops asks writes. without_lines _ _ f (ap line_events c.empty-start.ensures) (stops asks writes)) c.serve_by.ensures.fault

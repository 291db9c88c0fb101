use Rattle.std.proofs.Common.{rules}
use Rattle.gateway_read.specs.Compares.{target_of}
use Rattle.gateway_read.specs.Objects.{seen}
use Rattle.gateway_read.proofs.Operands.{compared-operand}
use Rattle.gateway_read.proofs.Steps.{fails_then, gives_fault}
use Rattle.gateway_read.proofs.comparing.compared.Goals as goal

pub returns-in_err-operand : goal.returns-in_err-operand
returns-in_err-operand c = rw (compared-operand c.args.range c.args.relation (target_of c.args.target) (seen c.args.object.now))
    (gives_fault _ c.from_residual.result _ _ c.from_residual.ensures.1 (fails_then _ _ _ c.in_err-operand.ensures))

pub returns : goal.returns
returns c = rw (compared-operand c.args.range c.args.relation (target_of c.args.target) (seen c.args.object.now), c.in_ok-operand.ensures)
    (search rules)

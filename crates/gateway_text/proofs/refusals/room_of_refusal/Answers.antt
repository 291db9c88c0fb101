use Rattle.std.proofs.Common.{arith}
use Rattle.gateway_text.proofs.Lengths.{refusal-most}
use Rattle.gateway_text.proofs.refusals.room_of_refusal.Goals as goal

pub returns-clause-least : goal.returns-clause-least
returns-clause-least c = λ status code small plain.
    omega (arith, refusal-most status code c.args.text.now small plain, c.saturating_mul.ensures, c.saturating_add.ensures)

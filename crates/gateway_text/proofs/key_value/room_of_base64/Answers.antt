use Rattle.std.proofs.Common.{arith}
use Rattle.gateway_text.proofs.Lengths.{base64-most}
use Rattle.gateway_text.proofs.key_value.room_of_base64.Goals as goal

pub returns-clause-least : goal.returns-clause-least
returns-clause-least c =
    omega (arith, base64-most c.args.bytes.now (λ i. let fits = c.type_inv.bytes i in omega arith), c.saturating_mul.ensures)

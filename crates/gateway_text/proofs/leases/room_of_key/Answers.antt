use Rattle.std.proofs.Common.{arith}
use Rattle.gateway_text.proofs.Lengths.{key-most}
use Rattle.gateway_text.proofs.leases.room_of_key.Goals as goal

pub returns-clause-least : goal.returns-clause-least
returns-clause-least c =
    omega (arith, key-most c.args.key.now (λ i. let fits = c.type_inv.key i in omega arith), c.saturating_mul.ensures, c.saturating_add.ensures)

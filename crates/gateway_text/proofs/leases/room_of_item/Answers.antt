use Rattle.std.proofs.Common.{arith}
use Rattle.gateway_text.proofs.Lengths.{lease-item-most}
use Rattle.gateway_text.proofs.leases.room_of_item.Goals as goal

pub returns-clause-least : goal.returns-clause-least
returns-clause-least c = omega (arith, lease-item-most c.args.id.now c.number_of.ensures)

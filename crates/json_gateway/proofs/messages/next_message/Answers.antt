use Rattle.std.proofs.Common.{rules}
use Rattle.std.specs.Prelude.{FitsSigned}
use Rattle.std.specs.Int.{w64}
use Rattle.std.proofs.lemmas.Int.{to_z-of_z}
use Rattle.json_gateway.proofs.Deliveries.{delivered_worlds, untold_worlds}
use Rattle.json_gateway.proofs.messages.next_message.Goals as goal

pub returns-in-Ok : goal.returns-in-Ok
returns-in-Ok c =
    let fits : FitsSigned w64 c.unwrap_or-id.result = search rules in
    let text = rw (to_z-of_z w64 _ fits) at c.text_of.ensures in
    delivered_worlds c.args.ids.now c.args.core.now c.args.number c.text_of.result c.watch_id.result c.in-Ok.delivery _ _
    c.status.ensures.revision c.unwrap_or-id.ensures c.watch_id.ensures c.in-Ok.ensures.told text

pub returns-in-Err : goal.returns-in-Err
returns-in-Err c = untold_worlds c.args.ids.now c.args.core.now c.args.number c.untold.result c.in-Err.refusal c.in-Err.ensures.refused c.untold.ensures.told

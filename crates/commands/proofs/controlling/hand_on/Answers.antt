use Rattle.commands.proofs.Orders.{handed}
use Rattle.commands.proofs.controlling.hand_on.Goals as goal

pub returns : goal.returns
returns g c =
    let (text, line, written) = c.in_ok-write_made.ensures in
    (text, line, handed c.flush.result _ _ _ text written c.flush.ensures.bytes)

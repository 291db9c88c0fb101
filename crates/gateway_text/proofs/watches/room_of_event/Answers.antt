use Rattle.std.proofs.Common.{arith}
use Rattle.gateway_text.proofs.Lengths.{event-most}
use Rattle.gateway_text.proofs.watches.room_of_event.Goals as goal

pub returns-clause-least : goal.returns-clause-least
returns-clause-least c =
    omega (
      arith,
      event-most c.args.event.now,
      c.room_of_version-version.ensures.least,
      c.room_of_previous-previous.ensures.least,
      c.saturating_add.ensures,
      c.saturating_add-2.ensures,
    )

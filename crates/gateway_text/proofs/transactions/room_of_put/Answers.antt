use Rattle.std.proofs.Common.{arith}
use Rattle.gateway_text.proofs.ResponseLengths.{put-most}
use Rattle.gateway_text.proofs.transactions.room_of_put.Goals as goal

pub returns-clause-least : goal.returns-clause-least
returns-clause-least c =
    omega (
      arith,
      put-most c.args.revision c.digits.result c.digits.ensures.fits c.digits.ensures.least c.args.previous,
      c.room_of_previous.ensures.least,
      c.saturating_add.ensures,
    )

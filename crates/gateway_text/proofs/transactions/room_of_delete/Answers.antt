use Rattle.std.proofs.Common.{arith}
use Rattle.gateway_text.proofs.ResponseLengths.{delete-most}
use Rattle.gateway_text.proofs.transactions.room_of_delete.Goals as goal

pub returns-clause-least : goal.returns-clause-least
returns-clause-least c =
    omega (
      arith,
      delete-most c.args.revision c.digits.result c.digits.ensures.fits c.digits.ensures.least c.args.deleted c.digits-2.result
          c.args.previous.now c.digits-2.ensures.fits c.digits-2.ensures.least,
      c.room_for.ensures.least,
    )

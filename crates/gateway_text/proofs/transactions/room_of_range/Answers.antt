use Rattle.std.proofs.Common.{ap, arith, map}
use Rattle.gateway_text.specs.Rooms.{kv_len, total}
use Rattle.gateway_text.proofs.ResponseLengths.{range-most}
use Rattle.gateway_text.proofs.transactions.room_of_range.Goals as goal

pub returns-clause-least : goal.returns-clause-least
returns-clause-least c =
    omega (
      arith,
      range-most c.args.revision c.digits.result c.digits.ensures.fits c.digits.ensures.least c.args.reply.now c.digits-2.result
          c.digits-2.ensures.fits c.digits-2.ensures.least,
      c.room_for.ensures.least,
      ap (λ kvs. total (map kv_len kvs)) c.deref.ensures.value,
    )

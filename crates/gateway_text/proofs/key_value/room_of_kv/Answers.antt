use Rattle.std.proofs.Common.{arith}
use Rattle.range_view.specs.Replies.{kv_view}
use Rattle.gateway_text.proofs.Lengths.{kv-most}
use Rattle.gateway_text.proofs.key_value.room_of_kv.Goals as goal

pub returns-clause-least : goal.returns-clause-least
returns-clause-least c =
    let most = kv-most (kv_view c.args.kv.now) c.digits.result c.digits-2.result c.digits-3.result c.room_of_lease-lease.result c.digits.ensures.fits
    c.digits-2.ensures.fits c.digits-3.ensures.fits c.digits.ensures.least c.digits-2.ensures.least c.digits-3.ensures.least
    c.room_of_lease-lease.ensures.least in
    omega (arith, most, c.room_of_base64.ensures.least, c.room_of_base64-2.ensures.least, c.saturating_add.ensures, c.saturating_add-2.ensures)

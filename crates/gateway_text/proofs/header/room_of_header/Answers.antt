use Rattle.gateway_text.proofs.Lengths.{header-most}
use Rattle.gateway_text.proofs.header.room_of_header.Goals as goal

pub returns-clause-least : goal.returns-clause-least
returns-clause-least c =
    header-most c.args.ids.now c.args.revision c.digits.result c.digits-2.result c.digits-3.result c.digits.ensures.fits c.digits-2.ensures.fits
    c.digits-3.ensures.fits c.digits.ensures.least c.digits-2.ensures.least c.digits-3.ensures.least

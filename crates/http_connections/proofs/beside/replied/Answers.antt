use Rattle.std.proofs.Common.{sym, subst}
use Rattle.http_connections.specs.Engines.{SettlesAs, response_over}
use Rattle.http_connections.proofs.Readings.{text_is}
use Rattle.http_connections.proofs.beside.replied.Goals as goal

pub returns-in-Ok : goal.returns-in-Ok
returns-in-Ok c = λ told t. subst (SettlesAs (response_over c.args.ids.now told)) (sym c.answered.ensures)
    (text_is c.args.ids.now c.args.reply.now c.in-Ok.bytes.items told t c.in-Ok.ensures)

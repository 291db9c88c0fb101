use Rattle.std.proofs.Common.{sym, subst}
use Rattle.json_gateway.specs.declared.outcome.Outcome.{Outcome}
use Rattle.store_laws.specs.Changes.{untrimmed}
use Rattle.event_book.specs.Events.{led_to}
use Rattle.http_connections.specs.Engines.{SettlesAs, answer_over, response_over}
use Rattle.http_connections.proofs.Readings.{is_answer}
use Rattle.http_connections.proofs.beside.read_whole.Goals as goal

pub returns-clause-settles : goal.returns-clause-settles
returns-clause-settles g c =
    let u = untrimmed (led_to c.args.client.now.reader.known) in
    subst (λ (o : Outcome). SettlesAs (response_over c.args.ids.now (answer_over u c.args.query.now)) o.settled) (sym c.read_as.ensures)
    (c.settled-settled.ensures (answer_over u c.args.query.now) (is_answer u c.args.query.now c.range.result c.range.ensures))

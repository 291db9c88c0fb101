use Rattle.http_connections.proofs.Readings.{looks_as, starts_as}
use Rattle.http_connections.proofs.beside.looked.Goals as goal

pub returns-in-Some-clause-looks : goal.returns-in-Some-clause-looks
returns-in-Some-clause-looks g c = looks_as c.args.events.now.engine.now.ids g.L.EngineName.recorded _ c.args.client.now c.looked_up.new.client c.in-Some.query.now c.args.command.now
    c.looked_up.result c.in-Some.ensures c.looked_up.ensures.looks

pub returns-in-Some-clause-none : goal.returns-in-Some-clause-none
returns-in-Some-clause-none g c = starts_as c.args.events.now.engine.now.ids _ c.args.command.now c.in-Some.query.now c.args.client.now c.looked_up.new.client c.looked_up.result
    c.in-Some.ensures c.looked_up.ensures.none

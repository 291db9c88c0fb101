use Rattle.http_connections.specs.Engines.{Reads}
use Rattle.http_connections.proofs.Readings.{if_some_map, reads_after, reads_in_parts, reads_whole, within}
use Rattle.http_connections.proofs.beside.read_beside.Goals as goal

pub returns-then-not-may_be_parted-clause-reads : goal.returns-then-not-may_be_parted-clause-reads
returns-then-not-may_be_parted-clause-reads g c = reads_whole c.args.ids.now c.args.client.now c.enter.new.self c.read_whole.new.client c.args.query.now c.read_whole.result
    c.enter.ensures.begins c.enter.ensures.others c.enter.ensures.book c.read_whole.ensures.client c.read_whole.ensures.settles c.read_whole.ensures.bare

pub returns-in-Ok-clause-reads : goal.returns-in-Ok-clause-reads
returns-in-Ok-clause-reads g c = reads_in_parts c.args.ids.now c.args.client.now c.enter.new.self c.read_in_parts.new.client c.args.query.now c.in-Ok.text c.answered.result c.read_as.result
    c.enter.ensures.begins c.enter.ensures.others c.enter.ensures.book c.in-Ok.ensures.reads c.read_in_parts.ensures.client c.read_in_parts.ensures.book c.answered.ensures c.read_as.ensures

pub returns-in-Err-Whole-clause-reads : goal.returns-in-Err-Whole-clause-reads
returns-in-Err-Whole-clause-reads g c =
    let m = within c.args.client.now c.enter.new.self c.read_in_parts.new.client c.enter.ensures.begins c.enter.ensures.others c.enter.ensures.book
    c.read_in_parts.ensures.begins c.read_in_parts.ensures.client c.read_in_parts.ensures.book in
    if_some_map (λ o. Reads c.args.ids.now c.read_in_parts.new.client c.args.query.now o c.read_again.new.client) (λ o. Reads c.args.ids.now c.args.client.now c.args.query.now o c.read_again.new.client)
    (λ o r. reads_after c.args.ids.now c.args.client.now c.read_in_parts.new.client c.read_again.new.client c.args.query.now o m.0 m.1 m.2 r) c.read_again.result c.read_again.ensures.reads

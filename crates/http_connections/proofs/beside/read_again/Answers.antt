use Rattle.http_connections.proofs.Readings.{reads_whole}
use Rattle.http_connections.proofs.beside.read_again.Goals as goal

pub returns-clause-reads : goal.returns-clause-reads
returns-clause-reads g c = reads_whole c.args.ids.now c.args.client.now c.enter.new.self c.read_whole.new.client c.args.query.now c.read_whole.result
    c.enter.ensures.begins c.enter.ensures.others c.enter.ensures.book c.read_whole.ensures.client c.read_whole.ensures.settles c.read_whole.ensures.bare

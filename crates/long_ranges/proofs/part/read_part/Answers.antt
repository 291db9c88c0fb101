use Rattle.event_book.proofs.Prefixes.{prefix_trans}
use Rattle.long_ranges.proofs.part.read_part.Goals as goal

pub returns-clause-reads : goal.returns-clause-reads
returns-clause-reads g c = λ front p then ids now count seen gat.
    c.read_within-read.ensures.reads front (prefix_trans front c.args.client.now.reader.known c.enter.new.self.reader.known p c.enter.ensures.begins) then ids now count seen gat

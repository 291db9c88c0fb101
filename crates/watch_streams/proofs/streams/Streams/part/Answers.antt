use Rattle.watch_streams.specs.Ends.{Parts}
use Rattle.watch_streams.proofs.Standing.{either}
use Rattle.watch_streams.proofs.streams.Streams.part.Goals as goal

pub returns : goal.returns
returns g c = record {
  closing = c.close.new.self;
  closes = either c.close.result _ _ c.close.ensures.ok c.close.ensures.err;
  turn = c.turn_once.result;
  turned = c.turn_once.new.self;
  turns = c.turn_once.ensures;
  goes = c.let_go.ensures;
}

use Rattle.watch_streams.proofs.Lives.{whole_lives}
use Rattle.watch_streams.proofs.laws.streams_are_whole.Goals as goal

pub returns : goal.returns
returns c = whole_lives

use Rattle.long_ranges.proofs.Wholes.{parts_make_the_whole}
use Rattle.long_ranges.proofs.laws.parts_make_the_whole.Goals as goal

pub returns : goal.returns
returns c = parts_make_the_whole

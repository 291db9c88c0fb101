use Rattle.long_ranges.proofs.Later.{later_says_the_same}
use Rattle.long_ranges.proofs.laws.later_says_the_same.Goals as goal

pub returns : goal.returns
returns c = later_says_the_same

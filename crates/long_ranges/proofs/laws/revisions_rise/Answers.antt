use Rattle.long_ranges.proofs.Later.{revisions_rise}
use Rattle.long_ranges.proofs.laws.revisions_rise.Goals as goal

pub returns : goal.returns
returns c = revisions_rise

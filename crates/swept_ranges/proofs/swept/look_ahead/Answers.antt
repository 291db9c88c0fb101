-- A gap tells nothing of what is covered.
use Rattle.swept_ranges.specs.Swept.{covers}
use Rattle.swept_ranges.proofs.swept.look_ahead.Goals as goal

pub returns-in-Some : goal.returns-in-Some
returns-in-Some c = c.gap_to.ensures (covers c.args.swept.now)

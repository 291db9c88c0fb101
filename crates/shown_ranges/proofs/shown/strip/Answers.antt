-- Where values are asked for, each stays.
use Rattle.range_view.proofs.Selecting.{stripped-kept}
use Rattle.shown_ranges.proofs.shown.strip.Goals as goal

pub returns-else-keys_only : goal.returns-else-keys_only
returns-else-keys_only c = stripped-kept c.args.keys_only _ c.if-keys_only.false

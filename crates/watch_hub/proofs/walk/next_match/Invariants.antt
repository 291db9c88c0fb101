use Rattle.std.proofs.Common.{◌≡◌, filter, length}
use Rattle.kv_model.specs.Watches.{matches}
use Rattle.watch_hub.specs.Walks.{left_in}
use Rattle.watch_hub.proofs.walk.next_match.Given as goal

-- what was passed over does not match
abbrev pub invariant-loop-version : goal.invariant-loop-version
invariant-loop-version l = filter (matches l.watched) (left_in l.source) ≡ filter (matches l.watched) (left_in l.fn.source)

abbrev pub decreases-loop-version : goal.decreases-loop-version
decreases-loop-version l = length (left_in l.source)

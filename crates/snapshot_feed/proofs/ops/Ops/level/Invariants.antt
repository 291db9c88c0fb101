use Rattle.std.specs.Prelude.{◌≡◌, fold, length, map}
use Rattle.kv_model.specs.Feed.{published}
use Rattle.store_laws.specs.Snapshots.{absorb}
use Rattle.snapshot_feed.proofs.ops.Ops.level.Given as goal

abbrev pub invariant-loop-self : goal.invariant-loop-self
invariant-loop-self l = fold absorb l.tables (map published l.self-inside.list.items) ≡ fold absorb l.fn.tables l.fn.self

abbrev pub decreases-loop-self : goal.decreases-loop-self
decreases-loop-self l = length l.self-inside.list.items

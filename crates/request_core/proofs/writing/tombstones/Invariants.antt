use Rattle.std.proofs.Common.{◌≡◌, take, map}
use Rattle.range_view.specs.Replies.{kv_view}
use Rattle.request_core.specs.Writing as writing
use Rattle.request_core.proofs.writing.tombstones.Given as goal

abbrev pub invariant-loop-sub : goal.invariant-loop-sub
invariant-loop-sub l = l.versions.items ≡ writing.tombstones l.main 0 (map kv_view (take l.sub l.live))

use Rattle.std.proofs.Common.{◌≡◌, true, map}
use Rattle.kv_model.specs.Keys.{key_le}
use Rattle.kv_model.specs.Ranges.{live}
use Rattle.range_view.specs.Replies.{kv_view}
use Rattle.swept_ranges.specs.Swept.{covers}
use Rattle.swept_ranges.specs.Walks.{AreButFrom}
use Rattle.swept_ranges.proofs.swept.walk.Given as goal

-- the walk has come to a key, and what it has taken lacks only what is covered before that
abbrev pub invariant-loop : goal.invariant-loop
invariant-loop l = record {
  from : key_le l.whole.from.now l.from ≡ true;
  so_far : AreButFrom (covers l.swept) l.from (map kv_view l.kvs.items) (live l.view.versions l.view.place l.range);
}

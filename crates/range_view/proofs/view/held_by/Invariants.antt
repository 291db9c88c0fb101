use Rattle.std.proofs.Common.{◌≡◌, take, map, filter_map}
use Rattle.key_index.specs.Agrees.{read_entry}
use Rattle.key_index.specs.Lent.{entry_of}
use Rattle.range_view.specs.Replies.{kv_view}
use Rattle.range_view.proofs.view.held_by.Given as goal

abbrev pub invariant-loop-key : goal.invariant-loop-key
invariant-loop-key l = map kv_view l.kvs.items ≡ filter_map (read_entry l.table l.place) (map entry_of (take l.key-index l.keys))

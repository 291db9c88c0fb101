use Rattle.std.proofs.Common.{◌≡◌, take, map, filter_map}
use Rattle.kv_model.specs.History.{value_at}
use Rattle.range_view.specs.Replies.{kv_view}
use Rattle.lease_keys.specs.Holding.{under}
use Rattle.lease_keys.proofs.walk.held_by.Given as goal

abbrev pub invariant-loop-key : goal.invariant-loop-key
invariant-loop-key l = map kv_view l.kvs.items ≡ filter_map (λ k. under l.lease (value_at l.view.versions l.view.place k))
    (map (λ k. k.now) (take l.key-index l.keys))

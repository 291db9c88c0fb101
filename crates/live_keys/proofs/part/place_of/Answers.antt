-- Halving finds how many keys are below a key.
use Rattle.std.proofs.Common.{rules, ◌∙◌}
use Rattle.std.proofs.lemmas.List.Sorted.{IsPartitionPoint-from_clause}
use Rattle.kv_model.specs.Keys.{key_lt}
use Rattle.range_view.specs.Replies.{kv_view}
use Rattle.store_laws.proofs.Rising.{count_while-point}
use Rattle.shown_ranges.proofs.Falling.{falls-partitioned}
use Rattle.live_keys.proofs.Counted.{count-map, falls-seen, keys-fall}
use Rattle.live_keys.proofs.part.place_of.Goals as goal

pub returns-clause-count : goal.returns-clause-count
returns-clause-count c = λ up.
    let point = IsPartitionPoint-from_clause (λ k. key_lt (kv_view k).key c.args.key.now) _ _ c.partition_point.ensures.partitioned
    (falls-partitioned (λ k. key_lt (kv_view k).key c.args.key.now) c.args.kvs.now (falls-seen kv_view (λ kv. key_lt kv.key c.args.key.now) c.args.kvs.now (keys-fall c.args.key.now _ up)))
    (λ a r q k. search rules) in
    count_while-point (λ k. key_lt (kv_view k).key c.args.key.now) _ _ c.partition_point.ensures.bound point
    ∙ count-map kv_view (λ kv. key_lt kv.key c.args.key.now) c.args.kvs.now

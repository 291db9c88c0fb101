-- Halving finds how many are not above one.
use Rattle.std.proofs.Common.{rules}
use Rattle.std.proofs.lemmas.List.Sorted.{IsPartitionPoint-from_clause}
use Rattle.store_laws.proofs.Rising.{count_while-point}
use Rattle.shown_ranges.specs.Best.{asked_cmp}
use Rattle.shown_ranges.proofs.Falling.{falls-partitioned}
use Rattle.shown_ranges.proofs.FirstFew.{asked, few-falls, upto}
use Rattle.shown_ranges.proofs.best.place_in.Goals as goal

pub returns-clause-count : goal.returns-clause-count
returns-clause-count c = λ seen e.
    let q = c.args.query.now in
    let t = upto (asked_cmp q) (asked q) c.args.kv.now in
    let point = IsPartitionPoint-from_clause t _ _ c.partition_point.ensures.partitioned
    (falls-partitioned t c.args.few.now (few-falls (asked_cmp q) (asked q) q.limit seen c.args.kv.now c.args.few.now e))
    (λ a r q k. search rules) in
    count_while-point t _ _ c.partition_point.ensures.bound point

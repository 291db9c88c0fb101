-- Each next one is noted.
use Rattle.std.proofs.Common.{◌∙◌, ap, arith, filter, sym, take}
use Rattle.std.proofs.lemmas.List.{take_more}
use Rattle.kv_model.specs.Ranges.{sorted_by}
use Rattle.shown_ranges.specs.Best.{asked_cmp}
use Rattle.shown_ranges.specs.Shown.{beyond, shows}
use Rattle.shown_ranges.proofs.FirstFew.{beyond-none}
use Rattle.shown_ranges.proofs.best.first_sorted.Goals as goal

pub loop-kv-init : goal.loop-kv-init
loop-kv-init c = c.new-few.ensures.items ∙ sym (beyond-none c.args.query.now.limit)

pub loop-kv-preserved : goal.loop-kv-preserved
loop-kv-preserved c =
    let q = c.args.query.now in
    c.in_ok-note.ensures (take c.loop-kv.kv-index c.args.kvs.now) c.loop-kv.invariant
    ∙ ap (λ xs. beyond q.limit (sorted_by (asked_cmp q) (filter (shows q) xs))) (sym (take_more c.args.kvs.now c.loop-kv.kv-index _ (omega arith)))

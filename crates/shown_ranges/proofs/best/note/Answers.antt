-- One that does not pass changes nothing.
use Rattle.std.proofs.Common.{◌≡◌, ◌∙◌, ap, false, filter, sym, true, rules}
use Rattle.std.proofs.lemmas.Result.{on_ok_weaker}
use Rattle.kv_model.specs.Ranges.{sorted_by}
use Rattle.shown_ranges.specs.Best.{asked_cmp}
use Rattle.shown_ranges.specs.Shown.{beyond, shows}
use Rattle.shown_ranges.proofs.FirstFew.{filter-left, filter-passed}
use Rattle.shown_ranges.proofs.best.note.Goals as goal

pub returns-then-not-passes : goal.returns-then-not-passes
returns-then-not-passes c = λ seen e.
    let q = c.args.query.now in
    let left : shows q c.args.kv.now ≡ false = search rules in
    e ∙ ap (λ xs. beyond q.limit (sorted_by (asked_cmp q) xs)) (sym (filter-left (shows q) seen c.args.kv.now left))

pub returns : goal.returns
returns c = λ seen e.
    let q = c.args.query.now in
    let passed : shows q c.args.kv.now ≡ true = search rules in
    on_ok_weaker c.put_in_order.result
    (λ f. f ∙ ap (λ xs. beyond q.limit (sorted_by (asked_cmp q) xs)) (sym (filter-passed (shows q) seen c.args.kv.now passed)))
    (c.put_in_order.ensures (filter (shows q) seen) e)

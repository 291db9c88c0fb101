-- Where no change strays from the range, every other key holds what it held.
use Rattle.std.proofs.Common.{◌<◌, ◌+◌, arith, sym, ◌∙◌, ap}
use Rattle.kv_model.specs.History.{value_at}
use Rattle.range_view.specs.Stored.{Viewed}
use Rattle.txn_core.proofs.Passing.{beside-same}
use Rattle.txn_core.proofs.known.pass.Goals as goal

pub replace-requires-clause-beside : goal.replace-requires-clause-beside
replace-requires-clause-beside c = λ k out.
    let s = c.args.tables.now in
    let known = c.in_ok-learn_changes.ensures c.args.sub c.requires.known in
    let some : 0 < c.args.sub = omega (arith, c.if-sub-eq0.false) in
    ap (λ (w : Viewed). value_at w.versions w.place k) c.view_before-view.ensures ∙ ap (λ p. value_at s.versions p k) c.place_before.ensures
    ∙ beside-same s.versions (c.args.before + 1) c.args.sub c.args.next c.args.range.now k some c.requires.order
    (c.are_within.ensures s c.args.before c.args.sub known c.if-not-are_within.false) out
    ∙ sym (ap (λ (w : Viewed). value_at w.versions w.place k) known.keys)

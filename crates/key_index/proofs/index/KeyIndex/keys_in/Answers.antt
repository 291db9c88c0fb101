-- The walk of a range gives just its entries.
use Rattle.std.proofs.Common.{map, ◌∙◌, ap}
use Rattle.key_pages.specs.Pairs.{below_key}
use Rattle.key_index.specs.Index.{first_same, in_interval}
use Rattle.key_index.specs.Lent.{entry_of}
use Rattle.key_index.proofs.Intervals.{interval-all, interval-below, interval-from, interval-one, listed}
use Rattle.key_index.proofs.index.KeyIndex.keys_in.Goals as goal

pub returns-in-Key-clause-keys : goal.returns-in-Key-clause-keys
returns-in-Key-clause-keys c =
    listed (λ v. map entry_of v.items) _ _
    (ap (first_same c.in-Key.key.now) c.from.ensures.value
    ∙ interval-one c.args.range.now c.in-Key.key.now c.self.inside.keys c.self.invariant.0 (λ k. c.in-Key.ensures k)
    ∙ ap (in_interval c.args.range.now) c.self.view_is) c.first.result c.first.ensures

pub returns-in-All-clause-keys : goal.returns-in-All-clause-keys
returns-in-All-clause-keys c =
    listed (λ v. map entry_of v.items) _ _
    (c.all.ensures.value ∙ interval-all c.args.range.now c.self.inside.keys (λ k. c.in-All.ensures k)
    ∙ ap (in_interval c.args.range.now) c.self.view_is) c.all-in-All.result c.all-in-All.ensures

pub returns-in-From-clause-keys : goal.returns-in-From-clause-keys
returns-in-From-clause-keys c =
    listed (λ v. map entry_of v.items) _ _
    (c.from-in-From.ensures.value
    ∙ interval-from c.args.range.now c.in-From.from.now c.self.inside.keys (λ k. c.in-From.ensures k)
    ∙ ap (in_interval c.args.range.now) c.self.view_is) c.all-in-From.result c.all-in-From.ensures

pub returns-in-Interval-clause-keys : goal.returns-in-Interval-clause-keys
returns-in-Interval-clause-keys c =
    listed (λ v. map entry_of v.items) _ _
    (ap (below_key c.in-Interval.to.now) c.from-in-Interval.ensures.value
    ∙ interval-below c.args.range.now c.in-Interval.from.now c.in-Interval.to.now c.self.inside.keys (λ k. c.in-Interval.ensures k)
    ∙ ap (in_interval c.args.range.now) c.self.view_is) c.all_below.result c.all_below.ensures

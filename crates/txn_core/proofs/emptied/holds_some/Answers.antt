-- Where no key is live, each holds nothing.
use Rattle.std.proofs.Common.{◌≡◌, [], map, sym, ◌∙◌, ap}
use Rattle.kv_model.specs.History.{value_at}
use Rattle.kv_model.specs.Ranges.{live}
use Rattle.range_view.specs.Replies.{kv_view}
use Rattle.range_view.specs.Stored.{Viewed}
use Rattle.txn_core.proofs.Staying.{held-none, items-none}
use Rattle.txn_core.proofs.emptied.holds_some.Goals as goal

pub returns : goal.returns
returns c = λ no k i.
    let vs = c.args.tables.now.versions in
    let v = c.view_before-view.result in
    let r = c.args.range.now in
    let none : c.as_slice.result.now ≡ [] = items-none c.as_slice.result.now c.is_empty.result c.is_empty.ensures no in
    let empty : live v.versions v.place r ≡ []
    = sym c.in_ok-kvs.ensures ∙ ap (map kv_view) (sym c.as_slice.ensures.value ∙ none) in
    sym (ap (λ (w : Viewed). value_at w.versions w.place k) c.view_before-view.ensures ∙ ap (λ p. value_at vs p k) c.place_before.ensures)
    ∙ held-none v r k empty i

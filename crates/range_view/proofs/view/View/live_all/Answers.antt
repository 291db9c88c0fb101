-- What the keys of the range hold by the index is what is live.
use Rattle.std.proofs.Common.{◌≡◌, ◌∙◌, ap, sym, subst, map, filter_map, List}
use Rattle.std.specs.Prelude.{IfOk}
use Rattle.kv_model.specs.History.{KeyValue}
use Rattle.kv_model.specs.Ranges.{live}
use Rattle.version_table.proofs.Changes.{find-latest}
use Rattle.key_index.specs.Agrees.{read_entry}
use Rattle.key_index.specs.Lent.{entry_of}
use Rattle.key_index.proofs.Walks.{live-agrees}
use Rattle.range_view.specs.Replies.{kv_view}
use Rattle.range_view.proofs.view.View.live_all.Goals as goal

pub returns : goal.returns
returns c =
    let vs = c.self.inside.table.now in
    let p = c.self.inside.place in
    let r = c.args.range.now in
    let seen : filter_map (read_entry vs p) (map entry_of c.deref.result.now) ≡ live vs p r =
    ap (λ xs. filter_map (read_entry vs p) (map entry_of xs)) c.deref.ensures.value
    ∙ ap (filter_map (read_entry vs p)) c.in_ok-keys.ensures.keys
    ∙ sym (live-agrees c.self.inside.index.now vs p r c.self.invariant.agrees (find-latest vs c.self.invariant.rising)) in
    rw (← c.self.view_is) (subst (λ (kvs : List KeyValue). IfOk c.held_by.result (λ found. map kv_view found.items ≡ kvs)) seen c.held_by.ensures)

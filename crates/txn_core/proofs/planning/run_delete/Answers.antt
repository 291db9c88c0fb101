-- Of ranges that are emptied no key is left to delete, and then this is one of them.
use Rattle.std.proofs.Common.{◌≡◌, sym, ◌∙◌, ap, subst, map}
use Rattle.kv_model.specs.Ranges.{keys_of, live}
use Rattle.range_view.specs.Replies.{kv_view}
use Rattle.txn_core.specs.KeyWrites.{number_after}
use Rattle.txn_core.specs.Planning.{with_graves, AreGone}
use Rattle.swept_ranges.specs.Swept.{covers, AreBut}
use Rattle.txn_core.proofs.Buried.{graves-but, gone-more}
use Rattle.txn_core.proofs.planning.run_delete.Goals as goal

pub returns-clause-made : goal.returns-clause-made
returns-clause-made c =
    let v = c.args.view.now in
    let r = c.args.request.now.range in
    let taken = map kv_view c.in_ok-live.live.items in
    let main : c.number_after.result ≡ number_after v.revision = c.number_after.ensures ∙ ap number_after c.revision.ensures in
    let but : AreBut (covers c.args.emptied.now.items) taken (live v.versions v.place r)
    = subst (λ rs. AreBut (covers rs) taken (live v.versions v.place r)) c.deref.ensures.value c.in_ok-live.ensures in
    c.in_ok-delete.ensures
    ∙ (λ i. with_graves (main i) c.args.changes.now (keys_of (map kv_view (c.deref-2.ensures.value i))))
    ∙ graves-but v (number_after v.revision) c.args.changes.now c.args.emptied.now.items r taken c.requires but

pub returns-clause-emptied : goal.returns-clause-emptied
returns-clause-emptied c =
    let v = c.args.view.now in
    subst (λ ws. AreGone v ws c.add.new.swept.items) (sym (returns-clause-made c))
    (gone-more v (number_after v.revision) c.args.changes.now c.args.emptied.now.items c.add.new.swept.items c.args.request.now.range
    c.requires c.in_ok-add.ensures)

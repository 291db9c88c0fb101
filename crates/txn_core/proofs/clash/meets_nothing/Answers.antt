-- Where nothing is touched but what each puts itself, nothing clashes.
use Rattle.std.proofs.Common.{◌≡◌, ◌++◌, map, ap, sym, ◌∙◌}
use Rattle.kv_model.specs.Commands.{txn_view}
use Rattle.kv_model.specs.Txns.{Touch, touches}
use Rattle.txn_core.specs.Touching.{keys_put, count_touched}
use Rattle.txn_core.specs.Views.{touch_view, keys_view}
use Rattle.txn_core.proofs.Alone.{none-meets}
use Rattle.txn_core.proofs.clash.meets_nothing.Goals as goal

pub returns : goal.returns
returns c =
    let ts = touches (txn_view c.args.txn.now) in
    let viewed : map touch_view c.push_txn.new.out.items ≡ ts
    = c.in_ok-push_txn.ensures ∙ ap (λ us. map touch_view us ++ ts) c.new-touched.ensures.items in
    let keys : (t : Touch) → count_touched t (keys_view c.deref-3.result.now) ≡ count_touched t (keys_put (map touch_view c.deref-2.result.now)) =
    λ t. ap (λ ks. count_touched t (keys_view ks)) c.deref-3.ensures.value ∙ c.in_ok-keys.ensures.counts t
    ∙ ap (λ us. count_touched t (keys_put (map touch_view us))) (c.deref.ensures.value ∙ sym c.deref-2.ensures.value) in
    none-meets (keys_view c.deref-3.result.now) c.deref-2.result.now (txn_view c.args.txn.now) _
    (ap (map touch_view) c.deref-2.ensures.value ∙ viewed) keys (sym c.meets_others.ensures)

use Rattle.std.proofs.Common.{◌≡◌, ◌++◌, map, ap, ◌∙◌}
use Rattle.kv_model.specs.Commands.{op_view}
use Rattle.kv_model.specs.Txns.{Touch, touches}
use Rattle.txn_core.specs.Touching.{keys_put, count_touched}
use Rattle.txn_core.specs.Views.{touch_view, keys_view}
use Rattle.txn_core.proofs.Clashing.{meets-by}
use Rattle.txn_core.proofs.clash.meets_more.Goals as goal

pub returns : goal.returns
returns c =
    let ts = touches (op_view c.args.operation.now) in
    let viewed : map touch_view c.push_operation.new.out.items ≡ ts
    = c.in_ok-push_operation.ensures ∙ ap (λ us. map touch_view us ++ ts) c.new-touched.ensures.items in
    let own : (t : Touch) → count_touched t (keys_view c.deref-3.result.now) ≡ count_touched t (keys_put ts) =
    λ t. ap (λ ks. count_touched t (keys_view ks)) c.deref-3.ensures.value ∙ c.in_ok-own.ensures.counts t
    ∙ ap (λ us. count_touched t (keys_put us)) (ap (map touch_view) c.deref.ensures.value ∙ viewed) in
    c.any_more.ensures ∙ meets-by (keys_view c.args.all.now) (keys_view c.deref-3.result.now) c.deref-2.result.now ts
    (ap (map touch_view) c.deref-2.ensures.value ∙ viewed) own

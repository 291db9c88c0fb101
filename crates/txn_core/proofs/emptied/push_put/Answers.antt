-- A put adds its key.
use Rattle.std.proofs.Common.{◌++◌, ◌∷◌, [], cond, map, sym, ◌∙◌, ap}
use Rattle.kv_model.specs.declared.version.Body.{Body}
use Rattle.kv_model.specs.History.{is_tombstone}
use Rattle.txn_core.specs.Touching.{keys_put}
use Rattle.txn_core.specs.Views.{touch_view}
use Rattle.txn_core.proofs.Staying.{put-more}
use Rattle.txn_core.proofs.emptied.push_put.Goals as goal

pub returns-in_ok-push-in-Put : goal.returns-in_ok-push-in-Put
returns-in_ok-push-in-Put c =
    let had = keys_put (map touch_view c.args.out.now.items) in
    ap (λ ts. keys_put (map touch_view ts)) c.in_ok-push-in-Put.ensures.items ∙ put-more c.args.out.now.items _
    ∙ ap (λ (b : Body). had ++ cond (is_tombstone b) [] (c.args.version.now.key ∷ [])) (sym c.in-Put.is)

use Rattle.std.proofs.Common.{◌∙◌, ap, map, filter, rules}
use Rattle.std.specs.Ordering.{int_eq}
use Rattle.std.proofs.lemmas.Fn.{filter_same}
use Rattle.kv_model.specs.History.{KeyValue}
use Rattle.range_view.specs.Replies.{kv_view}
use Rattle.lease_keys.proofs.Live.{leased-views}
use Rattle.lease_keys.proofs.walk.walk.Goals as goal

pub returns : goal.returns
returns c = ap (map kv_view) (filter_same _ _ _ (λ x b f' k. search rules) _ _ c.retain.ensures.filtered)
    ∙ leased-views c.args.lease _ ∙ ap (filter (λ (kv : KeyValue). int_eq kv.lease c.args.lease)) (search rules)

-- What is cut out is the part.
use Rattle.std.proofs.Common.{◌≡◌, ◌∙◌, ap, drop, map, sym, subst, take, ◌-◌, List}
use Rattle.kv_model.specs.History.{KeyValue}
use Rattle.kv_model.specs.Ranges.{reply_from}
use Rattle.range_view.specs.Replies.{kv_view, reply_view}
use Rattle.range_view.specs.Selecting.{AreByKey}
use Rattle.live_keys.specs.Parts.{of_part}
use Rattle.live_keys.proofs.Neighbours.{between-map, between-slice}
use Rattle.live_keys.proofs.Within.{if_ok-map}
use Rattle.live_keys.proofs.replies.reply_of_part.Goals as goal

pub returns : goal.returns
returns c = λ up.
    let p = c.args.part in
    let all : List KeyValue = map kv_view c.args.kvs.now in
    let same : map kv_view (take (p.to - p.from) (drop p.from c.args.kvs.now)) ≡ of_part p all
    = ap (map kv_view) (between-slice p.from p.to c.args.kvs.now c.requires.rises) ∙ sym (between-map kv_view p.from p.to c.args.kvs.now) in
    if_ok-map _ (λ r. reply_view r ≡ reply_from c.args.query.now c.args.revision (of_part p all))
    (λ r e. e ∙ ap (reply_from c.args.query.now c.args.revision) same)
    c.reply_by.result (c.reply_by.ensures (subst AreByKey (sym same) up))

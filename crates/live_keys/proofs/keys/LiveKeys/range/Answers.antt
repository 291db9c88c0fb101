-- A Range of the present revision reads at the view's place.
use Rattle.std.proofs.Common.{◌≡◌, ◌∙◌, rules, true}
use Rattle.kv_model.specs.Ranges.{range_reply}
use Rattle.range_view.specs.Replies.{reply_view}
use Rattle.shown_ranges.specs.Shown.{is_present}
use Rattle.live_keys.proofs.Within.{if_ok-map, read-here}
use Rattle.live_keys.proofs.keys.LiveKeys.range.Goals as goal

pub returns-clause-reply : goal.returns-clause-reply
returns-clause-reply c =
    let q = c.args.query.now in
    let v = c.args.self.now in
    let here : is_present q.revision ≡ true = search rules in
    if_ok-map _ (λ r. reply_view r ≡ range_reply v.versions v.revision v.place q) (λ r e. e ∙ read-here v.versions v.revision v.place q here)
    c.range_listed.result c.range_listed.ensures.reply

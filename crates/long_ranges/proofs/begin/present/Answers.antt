use Rattle.std.proofs.Common.{◌∙◌, Result, subst}
use Rattle.kv_model.specs.declared.refusal.Refusal.{Refusal}
use Rattle.range_view.specs.declared.reply.RangeReply.{RangeReply}
use Rattle.store_laws.specs.Changes.{untrimmed}
use Rattle.snapshot_feed.specs.Answers.{AnswersOf}
use Rattle.long_ranges.proofs.Answers.{allowed_there, shows_now}
use Rattle.long_ranges.proofs.begin.present.Goals as goal

pub returns-in-Ok : goal.returns-in-Ok
returns-in-Ok c = λ w q h.
    let there = subst (λ (a : Result RangeReply Refusal). AnswersOf (untrimmed w) q a) c.in-Ok.is h in
    (c.shown.ensures ∙ shows_now w q c.in-Ok.reply there, allowed_there w q c.in-Ok.reply there)

use Rattle.std.proofs.Common.{Result, subst}
use Rattle.kv_model.specs.declared.refusal.Refusal.{Refusal}
use Rattle.range_view.specs.declared.reply.RangeReply.{RangeReply}
use Rattle.store_laws.specs.Changes.{untrimmed}
use Rattle.snapshot_feed.specs.Answers.{AnswersOf}
use Rattle.long_ranges.proofs.part.with_answer.Goals as goal

pub returns-in-Ok : goal.returns-in-Ok
returns-in-Ok c = λ w asked q part h shown ids now count seen g.
    let there = shown c.in-Ok.reply (subst (λ (a : Result RangeReply Refusal). AnswersOf (untrimmed w) asked a) c.in-Ok.is h) in
    c.gather.ensures ids now count q seen part g there.0 there.1

use Rattle.std.proofs.Common.{ℕ, sym, ◌∙◌, ap}
use Rattle.kv_model.specs.Ranges.{RangeReply}
use Rattle.kv_model.specs.History.{end_of}
use Rattle.kv_model.specs.Told.{Reply, Answer}
use Rattle.request_core.specs.declared.answer.Todo.{Todo}
use Rattle.request_core.specs.declared.answer.Todo.TheVariants as todo
use Rattle.request_core.specs.Answers.{reply_left}
use Rattle.request_core.proofs.Ranges.{reply_revision}
use Rattle.request_core.proofs.store.Core.answer.Goals as goal

pub returns-in_ok-range-in-Range-clause-lends : goal.returns-in_ok-range-in-Range-clause-lends
returns-in_ok-range-in-Range-clause-lends c =
    let s = c.args.self.now.store in
    ap (λ (x : RangeReply). let a : Answer = record { reply = Reply.range x; revision = x.revision } in a) c.in_ok-range-in-Range.ensures
    ∙ ap (λ (n : ℕ). let a : Answer = record { reply = reply_left (todo.Range c.in-Range.query) s s.revision; revision = n } in a)
    (reply_revision s.versions s.revision (end_of s.revision) c.in-Range.query.now)
    ∙ sym (ap (λ (t : Todo). let a : Answer = record { reply = reply_left t s c.args.receipt.now.revision; revision = c.args.receipt.now.revision } in a) c.in-Range.is
    ∙ ap (λ (n : ℕ). let a : Answer = record { reply = reply_left (todo.Range c.in-Range.query) s n; revision = n } in a) c.requires.revision)

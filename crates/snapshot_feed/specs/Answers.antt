-- What a reader answers.
use Rattle.std.specs.Prelude.{◌≡◌, ℕ, ◌⊎◌, List, Result, Ok, Err}
use Rattle.kv_model.specs.declared.version.Version.{Version}
use Rattle.kv_model.specs.declared.call.RangeQuery.{RangeQuery}
use Rattle.kv_model.specs.declared.refusal.Refusal.{Refusal}
use Rattle.kv_model.specs.declared.refusal.Refusal.TheVariants.{Memory}
use Rattle.kv_model.specs.History.{end_of}
use Rattle.kv_model.specs.Ranges.{range_answer}
use Rattle.store_laws.specs.Snapshots.{Untrimmed}
use Rattle.range_view.specs.declared.reply.RangeReply.{RangeReply}
use Rattle.range_view.specs.Replies.{reply_view}

-- the model's answer over versions, their compaction and revision; or memory was wanting
abbrev pub Answers : List Version → ℕ → ℕ → RangeQuery → Result RangeReply Refusal → Type 0
Answers vs c now q (Ok r) = range_answer vs c now (end_of now) q ≡ Ok (reply_view r)
Answers vs c now q (Err e) = (e ≡ Memory) ⊎ (range_answer vs c now (end_of now) q ≡ Err e)

-- the answer of the whole history, of which nothing is trimmed
abbrev pub AnswersOf : Untrimmed → RangeQuery → Result RangeReply Refusal → Type 0
AnswersOf u = Answers u.versions u.compacted u.revision

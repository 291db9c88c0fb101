-- A reader's answer is the model's.
use Rattle.std.proofs.Common.{◌≡◌, List, [], sym, ap, ◌∙◌, ⊎_elim, inl, inr, Result, Ok, Err}
use Rattle.kv_model.specs.declared.call.RangeQuery.{RangeQuery}
use Rattle.kv_model.specs.declared.refusal.Refusal.{Refusal}
use Rattle.kv_model.specs.History.{end_of}
use Rattle.kv_model.specs.Ranges.{range_answer}
use Rattle.kv_model.specs.World.{World}
use Rattle.store_laws.specs.Changes.{untrimmed}
use Rattle.store_laws.specs.Snapshots.{Stored, Untrimmed, store_of}
use Rattle.store_laws.proofs.FeedLaws.{stores_part}
use Rattle.store_laws.proofs.GoodLaws.{good-range_answer}
use Rattle.store_laws.proofs.Openings.{opening_sound, blank_good}
use Rattle.event_book.specs.Events as events
use Rattle.event_book.specs.Events.{led_to}
use Rattle.event_book.specs.Publishing.{published_by}
use Rattle.event_book.proofs.Publishing.{published_says}
use Rattle.range_view.specs.declared.reply.RangeReply.{RangeReply}
use Rattle.snapshot_feed.specs.Answers.{Answers, AnswersOf}
use Rattle.snapshot_feed.specs.Showing.{IsShown}

-- no event may be shown
pub nothing_is_shown : IsShown []
nothing_is_shown = record { sound = opening_sound; good = blank_good.good }

-- what is stored of events that may be shown answers each Range as the model does behind them
pub same_answers : (log : List events.Entry) (q : RangeQuery) → IsShown log
    → range_answer (store_of (published_by log)).versions (store_of (published_by log)).compacted (store_of (published_by log)).revision (end_of (store_of (published_by log)).revision) q
    ≡ range_answer (untrimmed (led_to log)).versions (untrimmed (led_to log)).compacted (untrimmed (led_to log)).revision (end_of (untrimmed (led_to log)).revision) q
same_answers log q shown =
    let s : Stored = store_of (published_by log) in
    let w : World = led_to log in
    let compacted : s.compacted ≡ w.compacted = (stores_part (published_by log)).compacted ∙ ap (λ (u : Untrimmed). u.compacted) (published_says log) in
    let revision = (stores_part (published_by log)).revision ∙ ap (λ (u : Untrimmed). u.revision) (published_says log) in
    (λ i. range_answer s.versions (compacted i) (revision i) (end_of (revision i)) q)
    ∙ good-range_answer s.versions w.mutations w.compacted q shown.good shown.sound.history shown.sound.floor

-- and so an answer over tables that show them is the model's
pub whole_answers : (t : Stored) (log : List events.Entry) (q : RangeQuery) (r : Result RangeReply Refusal) → IsShown log
    → t ≡ store_of (published_by log) → Answers t.versions t.compacted t.revision q r → AnswersOf (untrimmed (led_to log)) q r
whole_answers t log q r shown is =
    by r (ap (λ (s : Stored). range_answer s.versions s.compacted s.revision (end_of s.revision) q) is ∙ same_answers log q shown)
  where
    by : (r : Result RangeReply Refusal) → range_answer t.versions t.compacted t.revision (end_of t.revision) q
        ≡ range_answer (untrimmed (led_to log)).versions (untrimmed (led_to log)).compacted (untrimmed (led_to log)).revision (end_of (untrimmed (led_to log)).revision) q
        → Answers t.versions t.compacted t.revision q r → AnswersOf (untrimmed (led_to log)) q r
    by (Ok reply) e h = sym e ∙ h
    by (Err error) e h = ⊎_elim inl (λ k. inr (sym e ∙ k)) h

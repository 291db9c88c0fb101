-- What a client reads beside the engine.
use Rattle.std.specs.Prelude.{◌≡◌, ◌⊎◌, Result, Err}
use Rattle.logbook.specs.Pages.{Book}
use Rattle.kv_model.specs.declared.call.RangeQuery.{RangeQuery}
use Rattle.kv_model.specs.declared.refusal.Refusal.{Refusal}
use Rattle.kv_model.specs.declared.refusal.Refusal.TheVariants.{NoPlace}
use Rattle.store_laws.specs.Changes.{untrimmed}
use Rattle.range_view.specs.declared.reply.RangeReply.{RangeReply}
use Rattle.event_book.specs.Events.{led_to}
use Rattle.snapshot_feed.specs.Answers.{AnswersOf}
use Rattle.snapshot_feed.specs.Lending as reader
use Rattle.engine_lock.specs.Locked.{Caller}

-- its reader is at a front of the list of all events, which begins with all that the client knew of; nothing else of it has
-- changed
pub record Enters (c later : Caller) : Type 0 where
  pub within : reader.Enters c.reader later.reader
  pub others : later ≡ record c { reader = later.reader }

-- The client entered a front of this list, and the answer is the model's in the world that the front leads to.
pub record Reads (book : Book) (c : Caller) (q : RangeQuery) (r : Result RangeReply Refusal) : Type 0 where
  pub later : Caller
  pub enters : Enters c later
  pub of : later.reader.book ≡ book
  pub answers : AnswersOf (untrimmed (led_to later.reader.known)) q r

-- or there was no entry
abbrev pub ReadsOrNot : Book → Caller → RangeQuery → Result RangeReply Refusal → Type 0
ReadsOrNot book c q r = (r ≡ Err NoPlace) ⊎ Reads book c q r

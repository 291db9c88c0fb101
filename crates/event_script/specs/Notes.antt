-- What is written down of one event under a lock: what changes nothing but the clock has no line.
use Rattle.std.specs.Prelude.{◌≡◌, ℕ, Bool, true, false, Option, None, Some, Result, Ok, Err, MatchBool, if◌then◌else◌}
use Rattle.std.specs.declared.alloc.AllocError.{AllocError}
use Rattle.kv_model.specs.declared.refusal.Refusal.{Refusal}
use Rattle.kv_model.specs.Follows.{Outcome}
use Rattle.kv_model.specs.Told as told
use Rattle.kv_model.specs.Wire.{WireEvent, WireOutcome, WireTold}
use Rattle.request_core.specs.Answers.{is_memory}
use Rattle.request_core.specs.declared.answer.Expiry.{Expiry}
use Rattle.request_core.specs.declared.answer.Expiry.TheVariants as expiry
use Rattle.json_gateway.specs.declared.outcome.Message.{Message}
use Rattle.json_gateway.specs.declared.outcome.Message.TheVariants as message
use Rattle.json_gateway.specs.declared.outcome.Settled.{Settled}
use Rattle.json_gateway.specs.declared.outcome.Settled.TheVariants as settled
use Rattle.json_gateway.specs.declared.outcome.Trimmed.{Trimmed}
use Rattle.json_gateway.specs.declared.outcome.Trimmed.TheVariants as trimmed
use Rattle.json_gateway.specs.Runs.{expired_view}
use Rattle.recording.specs.Lines.{IsNoted, Written}

-- the line of a request is written; where there is none, no line ever is
abbrev pub NotesRequest : Option WireEvent → Written → Written → Type 0
NotesRequest None old new = new ≡ record old { is_lost = true }
NotesRequest (Some e) old new = IsNoted e old new

-- a command that found no memory has none
abbrev pub NotesCommand : Settled → Option WireEvent → Written → Written → Type 0
NotesCommand settled.Memory request old new = new ≡ old
NotesCommand (settled.Reply r) request old new = NotesRequest request old new
NotesCommand (settled.Lost revision) request old new = NotesRequest request old new

-- a watch that is told nothing has none
abbrev pub NotesMessage : ℕ → Result Message AllocError → Written → Written → Type 0
NotesMessage number (Ok (message.Text text)) old new = IsNoted (WireEvent.deliver number) old new
NotesMessage number (Ok message.Nothing) old new = new ≡ old
NotesMessage number (Ok message.NoWatch) old new = new ≡ old
NotesMessage number (Err e) old new = new ≡ old

-- the end of a watch that did not stand has none
abbrev pub NotesEnding : ℕ → Bool → Written → Written → Type 0
NotesEnding number stood old new = MatchBool stood (IsNoted (WireEvent.close number) old new) (new ≡ old)

-- a step of expiry that ends no lease has none
abbrev pub NotesExpiry : Result Expiry Refusal → Written → Written → Type 0
NotesExpiry (Ok (expiry.Expired id revision raised)) old new = IsNoted WireEvent.expire old new
NotesExpiry (Ok expiry.Nothing) old new = new ≡ old
NotesExpiry (Err e) old new = new ≡ old

-- a trimming step that is told with its certificate says so
abbrev pub says_done : Trimmed → Bool
says_done (trimmed.Removed p) = false
says_done (trimmed.Kept p) = false
says_done (trimmed.Done versions certificate) = true

-- what a step of expiry came to: it is refused without memory, or since the revisions are spent
abbrev pub step_outcome : Result Expiry Refusal → WireOutcome
step_outcome (Ok e) = Outcome.said (WireTold.expiry (expired_view e))
step_outcome (Err e) = if is_memory e then Outcome.memory else Outcome.said (WireTold.expiry told.Expiry.spent)

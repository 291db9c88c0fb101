-- What was written down stays what the script says, with each event that is made and noted.
use Rattle.std.specs.Prelude.{◌≡◌, ◌<◌, ◌^◌, ℕ, Bool, true, false, List, [], ◌∷◌, ◌++◌, Option, Result, MatchBool}
use Rattle.std.specs.declared.alloc.AllocError.{AllocError}
use Rattle.kv_model.specs.declared.refusal.Refusal.{Refusal}
use Rattle.kv_model.specs.Certificates.{Claim}
use Rattle.kv_model.specs.Follows.{Outcome}
use Rattle.kv_model.specs.Told as told
use Rattle.kv_model.specs.Wire.{WireOutcome, WireTold, trim_told}
use Rattle.request_core.specs.declared.answer.Expiry.{Expiry}
use Rattle.json_gateway.specs.declared.outcome.Message.{Message}
use Rattle.json_gateway.specs.declared.outcome.Outcome as command
use Rattle.json_gateway.specs.declared.outcome.Trimmed.{Trimmed}
use Rattle.json_gateway.specs.Endings.{is_done}
use Rattle.json_gateway.specs.Runs.{command_view, delivery_outcome, trimmed_view}
use Rattle.recording.specs.Lines.{IsTrimNoted, Written, blank, handed}
use Rattle.event_book.specs.Asking.{Asking}
use Rattle.event_book.specs.Events.{Entry, Event, entry}
use Rattle.event_script.specs.Notes.{NotesCommand, NotesEnding, NotesExpiry, NotesMessage, says_done, step_outcome}
use Rattle.event_script.specs.Scripts.{IsWritten, Taken}
use Rattle.event_script.specs.Taking.{Takes, taken_next, untaken}

-- nothing was done
abbrev pub NothingIsWritten : Type 0
NothingIsWritten = (gone : Bool) (l : Written) (t : Taken) → l ≡ blank gone → t ≡ untaken gone → IsWritten l t []

-- ---- an event more

-- a moment was handed in
abbrev pub MomentIsWritten : Type 0
MomentIsWritten = (l m : Written) (t : Taken) (log : List Entry) (owner about now : ℕ) (o : WireOutcome) → IsWritten l t log → now < 2 ^ 64
    → m ≡ handed l now → IsWritten m t (log ++ entry owner about (Event.moment now) o ∷ [])

-- a command was done at a moment, and its request noted as it ended
abbrev pub CommandIsWritten : Type 0
CommandIsWritten = (l m : Written) (t : Taken) (log : List Entry) (owner about now : ℕ) (a : Asking) (o : command.Outcome) → IsWritten l t log
    → now < 2 ^ 64 → NotesCommand o.settled a.request (handed l now) m
    → IsWritten m t (log ++ entry owner about (Event.command now a) (command_view o) ∷ [])

-- a step of expiry was made at a moment
abbrev pub ExpiryIsWritten : Type 0
ExpiryIsWritten = (l m : Written) (t : Taken) (log : List Entry) (owner about now : ℕ) (r : Result Expiry Refusal) → IsWritten l t log
    → now < 2 ^ 64 → NotesExpiry r (handed l now) m → IsWritten m t (log ++ entry owner about (Event.expiry now) (step_outcome r) ∷ [])

-- a watch was told what it was told next
abbrev pub DeliveryIsWritten : Type 0
DeliveryIsWritten = (l m : Written) (t : Taken) (log : List Entry) (owner about number : ℕ) (r : Result Message AllocError) → IsWritten l t log
    → number < 2 ^ 64 → NotesMessage number r l m → IsWritten m t (log ++ entry owner about (Event.delivery number) (delivery_outcome r) ∷ [])

-- a watch was ended, or did not stand
abbrev pub EndingIsWritten : Type 0
EndingIsWritten = (l m : Written) (t : Taken) (log : List Entry) (owner about number : ℕ) (stood : Bool) → IsWritten l t log
    → number < 2 ^ 64 → NotesEnding number stood l m → IsWritten m t (log ++ entry owner about (Event.ending number) (Outcome.said (WireTold.closed stood)) ∷ [])

-- a trimming step was made, which is told without its certificate or with it
abbrev pub TrimmingIsWritten : Type 0
TrimmingIsWritten = (l m : Written) (t : Taken) (log : List Entry) (owner about : ℕ) (step : told.Trimmed) (c : Option (List Claim)) → IsWritten l t log
    → IsTrimNoted (is_done step) l m → IsWritten m t (log ++ entry owner about Event.trimming (Outcome.said (trim_told step c)) ∷ [])

-- and one that is told with a certificate which has passed its check
abbrev pub CheckedIsWritten : Type 0
CheckedIsWritten = (l m : Written) (t : Taken) (log : List Entry) (owner about : ℕ) (step : Trimmed) → IsWritten l t log
    → IsTrimNoted (says_done step) l m → IsWritten m t (log ++ entry owner about Event.trimming (Outcome.said (trimmed_view step)) ∷ [])

-- what is kept was shown
abbrev pub CertificateIsWritten : Type 0
CertificateIsWritten = (l m : Written) (t : Taken) (log : List Entry) (owner about : ℕ) (o : WireOutcome) → IsWritten l t log → m ≡ l
    → IsWritten m t (log ++ entry owner about Event.certificate o ∷ [])

-- ---- and no event

-- texts were taken, and whoever takes them was told whether they are all
abbrev pub TakingIsWritten : Type 0
TakingIsWritten = (l m : Written) (t : Taken) (all : Bool) (log : List Entry) → IsWritten l t log
    → m ≡ record l { taken = l.taken ++ l.text ∷ []; text = [] } → MatchBool all (l.is_lost ≡ false) (l.is_lost ≡ true)
    → IsWritten m (taken_next t all log) log × Takes t (taken_next t all log) l.text all

-- all of these
pub record StaysWritten : Type 0 where
  pub nothing : NothingIsWritten
  pub moment : MomentIsWritten
  pub command : CommandIsWritten
  pub expiry : ExpiryIsWritten
  pub delivery : DeliveryIsWritten
  pub ending : EndingIsWritten
  pub trimming : TrimmingIsWritten
  pub checked : CheckedIsWritten
  pub certificate : CertificateIsWritten
  pub taking : TakingIsWritten

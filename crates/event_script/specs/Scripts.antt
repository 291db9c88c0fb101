-- The script of a list of events: what is written down as each is made and its line finds memory, and what stands under a lock.
use Rattle.std.specs.Prelude.{◌≡◌, ◌<◌, ◌^◌, ℕ, List, All, [], ◌++◌, Bool, true, false, MatchBool, Option, None, Some, fold, if◌then◌else◌, ◌&&◌, is_some, ⊤}
use Rattle.std.specs.List.{concat}
use mathlib.Core.List.{IsPrefix}
use Rattle.kv_model.specs.Follows.{Outcome}
use Rattle.kv_model.specs.Told.{Expiry}
use Rattle.kv_model.specs.Wire.{WireEvent, WireOutcome, WireTold}
use Rattle.recording.specs.Lines.{Written, all_of, blank, handed, lines_of}
use Rattle.event_book.specs.Events.{Entry, Event}

-- ---- one event

-- the moment that comes with an event is handed in first, whatever the outcome is
abbrev pub handed_with : Written → Event → Written
handed_with l (Event.moment now) = handed l now
handed_with l (Event.command now asking) = handed l now
handed_with l (Event.expiry now) = handed l now
handed_with l (Event.delivery number) = l
handed_with l (Event.ending number) = l
handed_with l Event.trimming = l
handed_with l Event.certificate = l

-- the line of an event is written behind the others
abbrev pub noted : Written → WireEvent → Written
noted l e = record l { text = l.text ++ lines_of l.told l.clock e; told = l.clock; is_trimmed = false }

abbrev pub noted_if : Written → Option WireEvent → Written
noted_if l None = l
noted_if l (Some e) = noted l e

-- a step of expiry that ends no lease has no line
abbrev pub expiry_line : WireTold → Option WireEvent
expiry_line (WireTold.expiry (Expiry.expired id revision raised)) = Some WireEvent.expire
expiry_line _ = None

-- a watch that is told nothing has none
abbrev pub delivery_line : ℕ → WireTold → Option WireEvent
delivery_line number (WireTold.message text) = Some (WireEvent.deliver number)
delivery_line number _ = None

-- the end of a watch that did not stand has none
abbrev pub ending_line : ℕ → WireTold → Option WireEvent
ending_line number (WireTold.closed true) = Some (WireEvent.close number)
ending_line number _ = None

-- nor has a trimming step that says Done, where the last line is that of one that said so
abbrev pub noted_trim : Written → Bool → Written
noted_trim l done = if done && l.is_trimmed then l else record (noted l WireEvent.trim) { is_trimmed = done }

abbrev pub noted_trimming : Written → WireTold → Written
noted_trimming l (WireTold.done count certificate) = noted_trim l true
noted_trimming l (WireTold.removed place) = noted_trim l false
noted_trimming l (WireTold.kept place) = noted_trim l false
noted_trimming l _ = l

-- an event that was made and is told this
abbrev pub noted_told : Written → Event → WireTold → Written
noted_told l (Event.moment now) t = l
noted_told l (Event.command now asking) t = noted_if l asking.request
noted_told l (Event.expiry now) t = noted_if l (expiry_line t)
noted_told l (Event.delivery number) t = noted_if l (delivery_line number t)
noted_told l (Event.ending number) t = noted_if l (ending_line number t)
noted_told l Event.trimming t = noted_trimming l t
noted_told l Event.certificate t = l

-- of a command its answer may be lost
abbrev pub request_in : Event → Option WireEvent
request_in (Event.command now asking) = asking.request
request_in _ = None

-- an event without memory was not made
abbrev pub noted_by : Written → Event → WireOutcome → Written
noted_by l e Outcome.memory = l
noted_by l e (Outcome.lost loss) = noted_if l (request_in e)
noted_by l e (Outcome.said t) = noted_told l e t

-- what is written down when an entry is made and its line finds memory
abbrev pub write : Written → Entry → Written
write l e = noted_by (handed_with l e.event) e.event e.outcome

-- ---- the list

abbrev pub written_by : List Entry → Written
written_by log = fold write (blank false) log

-- the lines of all events
abbrev pub script_of : List Entry → List ℕ
script_of log = (written_by log).text

-- a command that was made has a request
abbrev pub HasRequest : Event → WireOutcome → Type 0
HasRequest (Event.command now asking) Outcome.memory = ⊤
HasRequest (Event.command now asking) (Outcome.lost loss) = is_some asking.request ≡ true
HasRequest (Event.command now asking) (Outcome.said t) = is_some asking.request ≡ true
HasRequest _ o = ⊤

abbrev pub AllAsked : List Entry → Type 0
AllAsked log = All (λ e. HasRequest e.event e.outcome) log

-- what was written is the script of a beginning of the list: a line was lost behind it, or none is to be written
pub record IsCut (l : Written) (log : List Entry) : Type 0 where
  pub front : List Entry
  pub begins : IsPrefix front log
  pub lines : all_of l ≡ script_of front
  pub asked : AllAsked front

-- its moment and its number have 64 bits
abbrev pub Fits : Event → Type 0
Fits (Event.moment now) = now < 2 ^ 64
Fits (Event.command now asking) = now < 2 ^ 64
Fits (Event.expiry now) = now < 2 ^ 64
Fits (Event.delivery number) = number < 2 ^ 64
Fits (Event.ending number) = number < 2 ^ 64
Fits _ = ⊤

abbrev pub AllFit : List Entry → Type 0
AllFit log = All (λ e. Fits e.event) log

-- up to which event of the list what was written was taken, and whether it was told then that lines are missing
pub record Taken : Type 0 where
  pub front : List Entry
  pub is_over : Bool

-- what was taken is the script up to there; or lines are missing, and all that there were are taken
abbrev pub IsTaken : Written → Taken → Type 0
IsTaken l t = MatchBool t.is_over ((l.is_lost ≡ true) × (l.text ≡ [])) (concat l.taken ≡ script_of t.front)

-- where no line was lost, all that was ever written is the script, and the clock, the moment that was told last and the mark
-- of trimming are those of it; and each command had its request
abbrev pub IsScript : Written → List Entry → Type 0
IsScript l log = MatchBool l.is_lost (IsCut l log) ((record l { taken = []; text = all_of l } ≡ written_by log) × AllAsked log)

-- what stands under a lock
pub record IsWritten (l : Written) (t : Taken) (log : List Entry) : Type 0 where
  pub script : IsScript l log
  pub taken : IsTaken l t
  pub seen : IsPrefix t.front log
  pub fit : AllFit log

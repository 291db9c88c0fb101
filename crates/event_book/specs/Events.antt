-- The events of a list: what each does to a world and is answered there, and which lists are histories.
use Rattle.std.specs.Prelude.{◌==◌, ℕ, List, [], ◌∷◌, Bool, true, false, ⊤, Ok, fold, filter}
use Rattle.kv_model.specs.declared.ids.Ids.{Ids}
use Rattle.kv_model.specs.Commands.{call_of}
use Rattle.kv_model.specs.Follows as follows
use Rattle.kv_model.specs.Follows.{Outcome}
use Rattle.kv_model.specs.Step.{made_in, perform, expire}
use Rattle.kv_model.specs.Watches.{deliver}
use Rattle.kv_model.specs.Wire.{IsChange, Loss, WireEvent, WireOutcome, WireTold, post_call, tell_reply, wire_step}
use Rattle.kv_model.specs.World.{World, at_moment, opening, without_watch}
use Rattle.event_book.specs.Asking.{Asking, IsAsked}

-- ---- one event

-- a moment is handed in alone; a command is done at a moment, or a step of expiry made; a watch is told what it is told
-- next, or ended; a trimming step is made; what is kept is shown with its certificate
pub data Event : Type 0 where
  moment : ℕ → Event
  command : ℕ → Asking → Event
  expiry : ℕ → Event
  delivery : ℕ → Event
  ending : ℕ → Event
  trimming : Event
  certificate : Event

-- the world at the moment that comes with the event, which is handed in first, whatever the outcome is
abbrev pub clocked : World → Event → World
clocked w (Event.command now asking) = at_moment w now
clocked w (Event.expiry now) = at_moment w now
clocked w _ = w

-- the world that the event makes of this one, as the model has it
abbrev pub made_of : World → Event → World
made_of w (Event.moment now) = at_moment w now
made_of w (Event.command now asking) = (perform w (call_of asking.command)).1
made_of w (Event.expiry now) = (expire w).1
made_of w (Event.delivery number) = (deliver w number).1
made_of w (Event.ending number) = record w { watches = without_watch number w.watches }
made_of w Event.trimming = w
made_of w Event.certificate = w

-- what it is told there, by these ids
abbrev pub told_of : Ids → World → Event → WireTold
told_of ids w (Event.moment now) = (wire_step ids w (WireEvent.moment now)).0
told_of ids w (Event.command now asking) = (tell_reply w (post_call ids w (Ok (call_of asking.command)))).0
told_of ids w (Event.expiry now) = (wire_step ids w WireEvent.expire).0
told_of ids w (Event.delivery number) = (wire_step ids w (WireEvent.deliver number)).0
told_of ids w (Event.ending number) = (wire_step ids w (WireEvent.close number)).0
told_of ids w Event.trimming = (wire_step ids w WireEvent.trim).0
told_of ids w Event.certificate = (wire_step ids w WireEvent.certify).0

abbrev pub event_step : Ids → World → Event → WireTold × World
event_step ids w e = (told_of ids w e, made_of w e)

-- what is told goes by what is kept
abbrev pub is_shown : Event → Bool
is_shown Event.trimming = true
is_shown Event.certificate = true
is_shown _ = false

-- the clock, the end of a watch and a trimming step take no memory
abbrev pub may_want : Event → Bool
may_want (Event.moment now) = false
may_want (Event.ending number) = false
may_want Event.trimming = false
may_want _ = true

-- only a command that changed the world may lose its answer
abbrev pub LosesBy : World → Event → Loss → Type 0
LosesBy w (Event.command now asking) l = IsChange w (call_of asking.command) l (made_in w (call_of asking.command))
LosesBy w _ l = ⊥

-- the outcome is the model's in this world: what it tells, but where memory ran out
abbrev pub Answers : Ids → World → Event → WireOutcome → Type 0
Answers ids = follows.Answers (event_step ids) is_shown may_want LosesBy

-- where there is a request for the command, it is one for it
abbrev pub IsAskedFor : Event → Type 0
IsAskedFor (Event.command now asking) = IsAsked asking
IsAskedFor _ = ⊤

-- ---- the list

-- whose it is, by the number of a holder and one that the holder names, and what it was answered
pub record Entry : Type 0 where
  pub by : ℕ
  pub about : ℕ
  pub event : Event
  pub outcome : WireOutcome

abbrev pub entry : ℕ → ℕ → Event → WireOutcome → Entry
entry by about e o = record { by = by; about = about; event = e; outcome = o }

-- the world behind an event with this outcome: an event without memory was not made
abbrev pub left_by : World → Event → WireOutcome → World
left_by w e Outcome.memory = w
left_by w e (Outcome.lost l) = made_of w e
left_by w e (Outcome.said t) = made_of w e

abbrev pub after : World → Entry → World
after w e = left_by (clocked w e.event) e.event e.outcome

-- the world behind all of them, from a store that nobody has used on
abbrev pub led_to : List Entry → World
led_to log = fold after opening log

-- each outcome is the model's in the world behind those before it
abbrev pub FollowsFrom : Ids → World → List Entry → Type 0
FollowsFrom ids w [] = ⊤
FollowsFrom ids w (e ∷ es) = Answers ids (clocked w e.event) e.event e.outcome × IsAskedFor e.event
    × FollowsFrom ids (after w e) es

abbrev pub IsHistory : Ids → List Entry → Type 0
IsHistory ids log = FollowsFrom ids opening log

-- those of a holder
abbrev pub events_by : ℕ → List Entry → List Entry
events_by n log = filter (λ e. e.by == n) log

-- those of a holder for what it names by this number
abbrev pub events_of : ℕ → ℕ → List Entry → List Entry
events_of n about log = filter (λ e. e.about == about) (events_by n log)

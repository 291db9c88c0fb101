-- A script that is played: the events that its lines ask for, made one after the other.
use Rattle.std.specs.Prelude.{◌≡◌, ℕ, ◌+◌, length, List, [], ◌∷◌, ◌++◌, Bool, true, false, Option, None, Some, map}
use Rattle.kv_model.specs.Follows as follows
use Rattle.kv_model.specs.Wire.{WireEvent, WireOutcome}
use Rattle.commands.specs.declared.fault.Fault.{Fault}
use Rattle.commands.specs.declared.fault.Fault.TheVariants as fault

-- no memory was found for it, and it was not made
abbrev pub is_memory : WireOutcome → Bool
is_memory follows.Outcome.memory = true
is_memory _ = false

-- `Makes` tells what each event comes to, from a state to another
module _ {S : Type 0} (Makes : S → WireEvent → WireOutcome → S → Type 0) where
  -- each was made, in order, once
  abbrev pub Plays : List WireEvent → S → S → Type 0
  Plays [] s u = u ≡ s
  Plays (e ∷ es) s u = (o : WireOutcome) × (t : S) × Makes s e o t × (is_memory o ≡ false) × Plays es t u

  -- each line asks for an event, and these were made
  abbrev pub PlaysLines : List (Option WireEvent) → S → S → Type 0
  PlaysLines lines s u = (events : List WireEvent) × (lines ≡ map Some events) × Plays events s u

  -- Why not every line was played: that of this number, counted from 1, is the first that asks for no event, or its event
  -- found no memory. The events of the lines before it were made, and none behind it.
  abbrev pub StopsPlaying : List (Option WireEvent) → S → Fault → S → Type 0
  StopsPlaying lines s (fault.NoEvent n) u = (before : List WireEvent) × (later : List (Option WireEvent))
      × (lines ≡ map Some before ++ None ∷ later) × (n ≡ length before + 1) × Plays before s u
  StopsPlaying lines s (fault.Unplayed n) u = (before : List WireEvent) × (event : WireEvent)
      × (later : List (Option WireEvent)) × (t : S) × (lines ≡ map Some before ++ Some event ∷ later)
      × (n ≡ length before + 1) × Plays before s t × Makes t event follows.Outcome.memory u
  StopsPlaying lines s _ u = ⊥

  -- the same of the line of this number alone
  abbrev pub PlaysLine : Option WireEvent → S → S → Type 0
  PlaysLine None s u = ⊥
  PlaysLine (Some e) s u = (o : WireOutcome) × Makes s e o u × (is_memory o ≡ false)

  abbrev pub StopsLine : Option WireEvent → ℕ → S → Fault → S → Type 0
  StopsLine None number s (fault.NoEvent n) u = (n ≡ number) × (u ≡ s)
  StopsLine (Some e) number s (fault.Unplayed n) u = (n ≡ number) × Makes s e follows.Outcome.memory u
  StopsLine line number s _ u = ⊥

-- ---- whether each line asks for an event

abbrev pub AreAllEvents : List (Option WireEvent) → Type 0
AreAllEvents lines = (events : List WireEvent) × (lines ≡ map Some events)

-- the line of this number, counted from 1, is the first that asks for none
abbrev pub IsFirstWithout : List (Option WireEvent) → Fault → Type 0
IsFirstWithout lines (fault.NoEvent n) = (before : List WireEvent) × (later : List (Option WireEvent))
    × (lines ≡ map Some before ++ None ∷ later) × (n ≡ length before + 1)
IsFirstWithout lines _ = ⊥

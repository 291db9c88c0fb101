-- What a holder was given by several calls, one after the other.
use Rattle.std.specs.Prelude.{◌==◌, ℕ, List, [], ◌∷◌, ◌++◌, filter}
use Rattle.kv_model.specs.declared.ids.Ids.{Ids}
use Rattle.kv_model.specs.Wire.{WireOutcome}
use Rattle.event_book.specs.Callers.{Adds, Caller, Gives, GivesTo, Shows}
use Rattle.event_book.specs.Events.{Entry, Event, entry}

-- by a call that enters an event it was given just this one
abbrev pub AddsOne : Type 0
AddsOne = (ids : Ids) (c : Caller) (about : ℕ) (e : Event) (o : WireOutcome) (later : Caller) → Adds ids c about e o later
    → Gives c (entry c.number about e o ∷ []) later

-- by one that shows it the list, nothing
abbrev pub ShowsNone : Type 0
ShowsNone = (c later : Caller) → Shows c later → Gives c [] later

-- by two, what the first gave and then what the second gave
abbrev pub GivesBoth : Type 0
GivesBoth = (c m later : Caller) (xs ys : List Entry) → Gives c xs m → Gives m ys later → Gives c (xs ++ ys) later

-- and for what it names by a number, those of them that are about it
abbrev pub GivesTheirs : Type 0
GivesTheirs = (c : Caller) (about : ℕ) (own : List Entry) (later : Caller) → Gives c own later
    → GivesTo c about (filter (λ e. e.about == about) own) later

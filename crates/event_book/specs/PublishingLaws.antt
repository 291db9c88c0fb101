-- What is said of all that readers are told.
use Rattle.std.specs.Prelude.{◌≡◌, List, [], ◌∷◌, ◌++◌, Err}
use mathlib.Core.List.{IsPrefix}
use Rattle.kv_model.specs.declared.refusal.Refusal.{Refusal}
use Rattle.kv_model.specs.Calls.{Call}
use Rattle.kv_model.specs.Step.{made_in}
use Rattle.kv_model.specs.World.{World}
use Rattle.store_laws.specs.Changes.{change_of, untrimmed}
use Rattle.store_laws.specs.Snapshots.{untrimmed_of}
use Rattle.event_book.specs.Events.{Entry, clocked, led_to}
use Rattle.event_book.specs.Publishing.{change_by, published_by}

-- what they are told of all events says what the world behind them is, but for its leases and watches
abbrev pub PublishedSays : Type 0
PublishedSays = (log : List Entry) → untrimmed_of (published_by log) ≡ untrimmed (led_to log)

-- an event more tells just its change, in the world behind those before it
abbrev pub PublishedMore : Type 0
PublishedMore = (log : List Entry) (e : Entry)
    → published_by (log ++ e ∷ []) ≡ published_by log ++ change_by (clocked (led_to log) e.event) e.event e.outcome

-- what is told of a beginning begins what is told of the whole
abbrev pub PublishedPrefix : Type 0
PublishedPrefix = (xs ys : List Entry) → IsPrefix xs ys → IsPrefix (published_by xs) (published_by ys)

-- a command that the model refuses tells nothing
abbrev pub RefusedIsUntold : Type 0
RefusedIsUntold = (w : World) (call : Call) (e : Refusal) → made_in w call ≡ Err e → change_of w call ≡ []

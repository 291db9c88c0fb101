-- Runs of plain events, without paths and bytes: the worked rows are computed on them.
use Rattle.std.specs.Prelude.{ℕ, List, [], ◌∷◌, Bool, is_some, Result}
use Rattle.kv_model.specs.declared.refusal.Refusal.{Refusal}
use Rattle.kv_model.specs.Calls.{Call}
use Rattle.kv_model.specs.World.{World, revision, at_moment, watch_at, without_watch}
use Rattle.kv_model.specs.Watches.{Delivery, deliver as delivered}
use Rattle.kv_model.specs.Told.{Answer, Expiry}
use Rattle.kv_model.specs.Step.{perform, expire as expired}

-- What happens to a store: the clock is read (in milliseconds), a client asks, a watch is told what it has not seen or
-- is closed (by its number), or the server itself makes a step of expiry or of trimming, or shows what it keeps.
pub data Event : Type 0 where
  moment : ℕ → Event
  command : Call → Event
  deliver : ℕ → Event
  close : ℕ → Event
  expire : Event
  trim : Event
  certify : Event

-- What an event is answered. A delivery comes with the revision of the store, and a closing tells whether the watch
-- stood. Untold is what trimming and certifying tell: that goes by what is kept.
pub data Told : Type 0 where
  clock : ℕ → Told
  answer : Result Answer Refusal → Told
  delivery : Delivery → ℕ → Told
  closed : Bool → Told
  expiry : Expiry → Told
  untold : Told

abbrev pub tell_answer : Result Answer Refusal × World → Told × World
tell_answer p = (Told.answer p.0, p.1)

abbrev pub tell_delivery : ℕ → Delivery × World → Told × World
tell_delivery now p = (Told.delivery p.0 now, p.1)

abbrev pub tell_expiry : Expiry × World → Told × World
tell_expiry p = (Told.expiry p.0, p.1)

-- one event: what is told, and the world after it; trimming and certifying change nothing, and what they tell goes by
-- what is kept
abbrev pub step : World → Event → Told × World
step w (Event.moment m) = (Told.clock (at_moment w m).clock, at_moment w m)
step w (Event.command call) = tell_answer (perform w call)
step w (Event.deliver n) = tell_delivery (revision w) (delivered w n)
step w (Event.close n) = (
  Told.closed (is_some (watch_at w.watches n)),
  record w { watches = without_watch n w.watches },
)
step w Event.expire = tell_expiry (expired w)
step w Event.trim = (Told.untold, w)
step w Event.certify = (Told.untold, w)

-- what a list of events tells, from a world on
abbrev pub told_by : World → List Event → List Told
told_by w [] = []
told_by w (e ∷ es) = (step w e).0 ∷ told_by (step w e).1 es

abbrev pub world_after : World → List Event → World
world_after w [] = w
world_after w (e ∷ es) = world_after (step w e).1 es

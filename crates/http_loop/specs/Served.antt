-- What serving a connection does, where a core by itself answers it.
use Rattle.std.specs.Prelude.{◌≡◌, ◌<◌, ℕ, ◌^◌, Option, None, Some}
use Rattle.kv_model.specs.declared.ids.Ids.{Ids}
use Rattle.kv_model.specs.Watches.{deliver}
use Rattle.kv_model.specs.Wire.{message_to}
use Rattle.store_laws.specs.Stands.{StandsFor}
use Rattle.request_core.specs.State.{CoreState, keeping_of}
use Rattle.http_head.specs.Requests.{Asked}
use Rattle.json_gateway.specs.declared.outcome.Outcome.{Outcome}
use Rattle.json_gateway.specs.Outcomes.{IsBare}
use Rattle.json_gateway.specs.Runs.{command_view}
use Rattle.http_loop.specs.declared.answering.Told.{Told}
use Rattle.http_loop.specs.declared.answering.Told.TheVariants as told
use Rattle.http_loop.specs.Connections.{IsOutcome, Standing, dropped, with_world}

-- the core stands for this world, and keeps just this
pub record Stands (core : CoreState) (s : Standing) : Type 0 where
  pub world : StandsFor core.store s.world
  pub keeping : keeping_of core ≡ s.keeping

-- the ids of a server by itself
abbrev pub ids_alone : Ids
ids_alone = record { cluster = 1; member = 1 }

-- ---- what a core does as the one who answers

-- the core then stands for what this holds of
pub record Leaves (core : CoreState) (Is : Standing → Type 0) : Type 0 where
  pub after : Standing
  pub stands : Stands core after
  pub is : Is after

pub record Answers (old : CoreState) (a : Asked) (o : Outcome) (new : CoreState) : Type 0 where
  pub comes : (s : Standing) → Stands old s → Leaves new (IsOutcome ids_alone s a (command_view o))
  pub bare : IsBare o
  pub fits : new.store.revision < 2 ^ 64

abbrev pub Tells : CoreState → ℕ → Told → CoreState → Type 0
Tells old n (told.Text x) new = (s : Standing) → Stands old s → (message_to ids_alone s.world n ≡ Some x.items)
    × Stands new (with_world s (deliver s.world n).1)
Tells old n told.End new = (s : Standing) → Stands old s → (message_to ids_alone s.world n ≡ None) × Stands new s
Tells old n told.Memory new = new ≡ old
Tells old n told.Away new = ⊥

abbrev pub Finishes : CoreState → Option ℕ → CoreState → Type 0
Finishes old watch new = (s : Standing) → Stands old s → Stands new (dropped watch s)

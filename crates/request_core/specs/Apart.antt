-- A core parted into its tables and the rest of it.
use Rattle.std.specs.Prelude.{ℕ}
use Rattle.kv_model.specs.History.{value_now}
use Rattle.lease_book.specs.Book.{Book}
use Rattle.lease_keys.specs.Pairs.{Pairs}
use Rattle.lease_keys.specs.Holding.{AreJust}
use Rattle.watch_hub.specs.Hub.{Hub}
use Rattle.range_view.specs.Stored.{Stored}
use Rattle.request_core.specs.State.{CoreState, IsSound, core_state}

-- what a core is besides its tables: the leases and the clock, which keys were put under which lease, the watches, and how many
-- changing calls came
pub record RestState : Type 0 where
  pub book : Book
  pub keys : Pairs
  pub hub : Hub
  pub stamp : ℕ

-- the core of tables and the rest
abbrev pub joined : Stored → RestState → CoreState
joined t r = core_state t r.book r.hub r.stamp

-- these are the tables and the rest of some core
pub record CanJoin (t : Stored) (r : RestState) : Type 0 where
  pub sound : IsSound t
  pub just : AreJust r.keys (value_now t.versions)

-- What the book of leases stands for: the leases of a world, and its clock.
use Rattle.std.specs.Prelude.{ℕ, ℤ, List, Option}
use Rattle.kv_model.specs.declared.refusal.Refusal.{Refusal}
use Rattle.kv_model.specs.Leases.{Lease, id_asked, ttl_asked, deadline_of}
use Rattle.kv_model.specs.World.{World, opening}
use Rattle.kv_model.specs.Step.{grant_refusal}

-- the leases ascend by ID
pub record Book : Type 0 where
  pub leases : List Lease
  pub clock : ℕ

-- a world with the book's leases and clock
abbrev pub in_world : Book → World → World
in_world b w = record w { leases = b.leases; clock = b.clock }

-- why a grant is refused; nothing of the world but leases and clock decides it
abbrev pub refusal_of : Book → ℤ → ℤ → Option Refusal
refusal_of b ttl id = grant_refusal (in_world b opening) ttl id

abbrev pub lease_asked : Book → ℤ → ℤ → Lease
lease_asked b ttl id =
    record { id = id_asked b.leases id; ttl = ttl_asked ttl; deadline = deadline_of b.clock (ttl_asked ttl) }

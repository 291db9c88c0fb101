use Rattle.std.proofs.Common.{◌≡◌, ℕ, drop, option_map}
use Rattle.slab.specs.Slab.{slab_len}
use Rattle.store_laws.specs.Stands.{noted}
use Rattle.watch_hub.specs.Entries.{seen_in, AreGuarded, AreReached}
use Rattle.watch_hub.proofs.noting.note_guarded.Given as goal

-- with the versions that are left, each watch notes what it notes of all of them
abbrev pub invariant-loop-version : goal.invariant-loop-version
invariant-loop-version l =
    ((place : ℕ) → option_map (noted (drop l.version-index l.versions) l.now) (seen_in l.slab place)
    ≡ option_map (noted l.versions l.now) (seen_in l.initial.slab place))
    × AreGuarded (seen_in l.slab) l.guards × AreReached (seen_in l.slab) × (slab_len l.slab ≡ slab_len l.initial.slab)

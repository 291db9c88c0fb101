use Rattle.std.proofs.Common.{◌≡◌, ℕ, ◌<◌, ◌≤◌, option_map}
use Rattle.slab.specs.Slab.{get, slab_len}
use Rattle.store_laws.specs.Stands.{noted}
use Rattle.watch_hub.specs.Entries.{seen_in}
use Rattle.watch_hub.proofs.noting.note_all.Given as goal

-- those below the place took note, the others are as they were, and there are as many
abbrev pub invariant-loop-place : goal.invariant-loop-place
invariant-loop-place l =
    ((k : ℕ) → k < l.place → seen_in l.slab k ≡ option_map (noted l.versions l.now) (seen_in l.initial.slab k))
    × ((k : ℕ) → l.place ≤ k → get l.slab k ≡ get l.initial.slab k)
    × (slab_len l.slab ≡ slab_len l.initial.slab)

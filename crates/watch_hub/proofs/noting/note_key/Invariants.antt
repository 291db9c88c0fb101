use Rattle.std.proofs.Common.{◌≡◌, ◌≤◌, length}
use Rattle.slab.specs.Slab.{slab_len}
use Rattle.watch_hub.specs.Entries.{seen_in}
use Rattle.watch_hub.proofs.Noted.{IsNoting}
use Rattle.watch_hub.proofs.noting.note_key.Given as goal

-- the watches of the guards that were passed took note
abbrev pub invariant-loop-index : goal.invariant-loop-index
invariant-loop-index l =
    (l.left ≤ length l.guards) × IsNoting l.guards l.version l.now (seen_in l.initial.slab) (seen_in l.slab) l.left
    × (slab_len l.slab ≡ slab_len l.initial.slab)

abbrev pub decreases-loop-index : goal.decreases-loop-index
decreases-loop-index l = l.left

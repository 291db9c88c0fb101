use Rattle.std.proofs.Common.{◌≡◌, length}
use Rattle.watch_hub.specs.Guards.{AreBacks, AreFar}
use Rattle.watch_hub.proofs.guards.set_backs.Given as goal

-- those before the index have their ways back
abbrev pub invariant-loop-index : goal.invariant-loop-index
invariant-loop-index l = (length l.backs.items ≡ length l.guards) × AreBacks l.guards l.backs.items l.index
    × AreFar l.guards l.backs.items l.index

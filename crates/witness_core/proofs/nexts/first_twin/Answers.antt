-- A walk that has come to the end of the versions.
use Rattle.std.proofs.Common.{◌∙◌, sym}
use Rattle.witness_core.proofs.Walking.{either, no-twin-left}
use Rattle.witness_core.proofs.nexts.first_twin.Goals as goal

pub returns : goal.returns
returns c = no-twin-left _ _ (either c.in-None.ensures.steps) ∙ sym c.loop-version.invariant

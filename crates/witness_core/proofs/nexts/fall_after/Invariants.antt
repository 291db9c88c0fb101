use Rattle.std.proofs.Common.{◌≡◌, drop}
use Rattle.kv_model.specs.Certificates.{fall_after}
use Rattle.witness_core.proofs.nexts.fall_after.Given as goal

abbrev pub invariant-loop-version : goal.invariant-loop-version
invariant-loop-version l = fall_after l.fn.first l.versions ≡ fall_after l.last (drop l.version-index l.versions)

use Rattle.std.proofs.Common.{◌<◌, ◌^◌, drop}
use Rattle.std.specs.List.{AllByRecursion}
use Rattle.witness_core.proofs.nexts.are_places.Given as goal

abbrev pub invariant-loop-version : goal.invariant-loop-version
invariant-loop-version l =
    AllByRecursion (λ v. v.rev.sub < 2 ^ 64) (drop l.version-index l.versions) → AllByRecursion (λ v. v.rev.sub < 2 ^ 64) l.versions

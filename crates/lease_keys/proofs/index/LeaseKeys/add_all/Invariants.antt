use Rattle.std.proofs.Common.{drop}
use Rattle.lease_keys.specs.Holding.{ArePartlyPut}
use Rattle.lease_keys.proofs.Holding.{AddsOn}
use Rattle.lease_keys.proofs.index.LeaseKeys.add_all.Given as goal

abbrev pub invariant-loop-version : goal.invariant-loop-version
invariant-loop-version l = record {
  on : AddsOn (drop l.version-index l.fn.versions) l.fn.versions l.fn.self l.self;
  partly : ArePartlyPut l.fn.versions l.fn.self l.self;
}

use Rattle.std.proofs.Common.{◌≡◌, fold, replicate, drop, false}
use Rattle.gateway_read.specs.Lengths.{marked}
use Rattle.gateway_read.proofs.object.lengths_of.Given as goal

abbrev pub invariant-loop-name : goal.invariant-loop-name
invariant-loop-name l = fold marked l.lengths (drop l.name-index l.members) ≡ fold marked (replicate 32 false) l.members

-- No version is left.
use Rattle.witness_core.specs.Making.{dump_of}
use Rattle.witness_core.proofs.Walking.{all-claimed}
use Rattle.witness_core.proofs.making.make.Goals as goal

pub returns : goal.returns
returns c =
    all-claimed (dump_of c.args.view.now) c.loop-version.versions c.loop-version.claims.items c.in_default.ensures.0
    c.loop-version.invariant

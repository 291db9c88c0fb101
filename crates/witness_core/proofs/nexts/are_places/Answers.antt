-- Each version's number fits, and then those of all.
use Rattle.std.proofs.Common.{◌<◌, ◌^◌, subst}
use Rattle.kv_model.specs.declared.version.Version.{Version}
use Rattle.witness_core.proofs.Walking.{one-holds, all-hold}
use Rattle.witness_core.proofs.nexts.are_places.Goals as goal

pub loop-version-preserved : goal.loop-version-preserved
loop-version-preserved c =
    one-holds (λ v. v.rev.sub < 2 ^ 64) c.args.versions.now c.loop-version.version-index _ c.loop-version-test.true c.loop-version.invariant
    (subst (λ (v : Version). v.rev.sub < 2 ^ 64) c.version-item.is c.number_of.ensures.fits)

pub returns : goal.returns
returns c =
    all-hold (λ v. v.rev.sub < 2 ^ 64) c.args.versions.now c.loop-version.version-index c.loop-version-test.false c.loop-version.invariant

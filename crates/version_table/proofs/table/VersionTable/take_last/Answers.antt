-- The last version is taken out by its revision.
use Rattle.std.proofs.Common.{◌∙◌, ap, sym, subst, List, length, ◌<◌}
use Rattle.kv_model.specs.declared.version.Version.{Version}
use Rattle.version_table.specs.Rising.{retracted}
use Rattle.version_table.proofs.Retracting.{last-fewer, last-retracted}
use Rattle.version_table.proofs.table.VersionTable.take_last.Goals as goal

pub returns-in-Some-clause-taken : goal.returns-in-Some-clause-taken
returns-in-Some-clause-taken c =
    let vs = c.args.self.now in
    λ _. ap (retracted c.args.main) c.remove.ensures
    ∙ last-retracted c.args.main vs c.in-Some.version.now c.newest.ensures.rising (sym c.in-Some.ensures.value) c.if-version-main.true

pub returns-in-Some-clause-fewer : goal.returns-in-Some-clause-fewer
returns-in-Some-clause-fewer c =
    let vs = c.args.self.now in
    λ _. subst (λ (us : List Version). length us < length vs) (sym c.remove.ensures)
    (last-fewer vs c.in-Some.version.now c.newest.ensures.rising (sym c.in-Some.ensures.value))

use Rattle.std.proofs.Common.{◌<◌, ◌^◌, ap, subst, List, ◌∙◌}
use Rattle.std.specs.List.{AllByRecursion}
use Rattle.kv_model.specs.declared.version.Version.{Version}
use Rattle.kv_model.specs.Certificates.{Dump}
use Rattle.witness_core.proofs.Either.{by-either}
use Rattle.witness_core.proofs.older.needs_are_needs_by_either_test.Goals as goal

pub returns : goal.returns
returns c =
    by-either c.args.dump.now c.args.certificate.now
    (subst (λ (vs : List Version). AllByRecursion (λ v. v.rev.sub < 2 ^ 64) vs)
    (c.deref.ensures.value ∙ ap (λ (d : Dump). d.versions) c.dump.view_is) c.are_places.ensures)

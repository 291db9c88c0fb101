-- The list rises, and then it is judged without memory.
use Rattle.std.proofs.Common.{◌<◌, ◌^◌, ◌∙◌, ap, subst, List}
use Rattle.std.specs.List.{AllByRecursion}
use Rattle.kv_model.specs.declared.version.Version.{Version}
use Rattle.kv_model.specs.Certificates.{Dump, first_fall}
use Rattle.witness_core.specs.declared.fault.NeedFault.TheVariants.{NotRising}
use Rattle.witness_core.proofs.Faulty.{there, all-there}
use Rattle.witness_core.proofs.Passing.{Says, said, falls, passed, counted, needed, fewest, first}
use Rattle.witness_core.proofs.checking.check.Goals as goal
use Rattle.witness_core.proofs.checking.check.Goals.{After-judged_by}

pub returns-in-Some-clause-first : goal.returns-in-Some-clause-first
returns-in-Some-clause-first c =
    falls c.args.dump.now c.args.certificate.now c.in-Some.rev
    (c.in-Some.ensures ∙ ap first_fall (c.deref-2.ensures.value ∙ ap (λ (d : Dump). d.versions) c.dump.view_is))

pub returns-in-Some-clause-stands : goal.returns-in-Some-clause-stands
returns-in-Some-clause-stands c =
    there c.args.dump.now c.args.certificate.now (NotRising c.in-Some.rev)
    (falls c.args.dump.now c.args.certificate.now c.in-Some.rev
    (c.in-Some.ensures ∙ ap first_fall (c.deref-2.ensures.value ∙ ap (λ (d : Dump). d.versions) c.dump.view_is)))

says : (c : After-judged_by) → Says c.judged_by.result c.args.dump.now c.args.certificate.now
says c =
    said c.args.dump.now c.args.certificate.now c.deref-4.result.now c.deref-2.result.now c.deref-3.result.now c.next_mains-nexts.result
    c.judged_by.result (c.deref-2.ensures.value ∙ ap (λ (d : Dump). d.versions) c.dump.view_is) c.in_default.ensures
    (c.deref-3.ensures.value ∙ ap (λ (d : Dump). d.versions) c.dump.view_is) c.next_mains-nexts.ensures
    (c.deref-4.ensures.value ∙ c.certificate.view_is) c.judged_by.ensures

places : (c : After-judged_by) → AllByRecursion (λ v. v.rev.sub < 2 ^ 64) c.args.dump.now.versions
places c =
    subst (λ (vs : List Version). AllByRecursion (λ v. v.rev.sub < 2 ^ 64) vs)
    (c.deref.ensures.value ∙ ap (λ (d : Dump). d.versions) c.dump.view_is) c.are_places.ensures

pub returns-clause-passes : goal.returns-clause-passes
returns-clause-passes c = passed c.args.dump.now c.args.certificate.now c.judged_by.result (says c)

pub returns-clause-count : goal.returns-clause-count
returns-clause-count c = counted c.args.dump.now c.args.certificate.now c.judged_by.result (says c)

pub returns-clause-needs : goal.returns-clause-needs
returns-clause-needs c = needed c.args.dump.now c.args.certificate.now c.judged_by.result (places c) (says c)

pub returns-clause-least : goal.returns-clause-least
returns-clause-least c = fewest c.args.dump.now c.args.certificate.now c.judged_by.result (places c) (says c)

pub returns-clause-first : goal.returns-clause-first
returns-clause-first c = first c.args.dump.now c.args.certificate.now c.judged_by.result (says c)

pub returns-clause-stands : goal.returns-clause-stands
returns-clause-stands c =
    all-there c.args.dump.now c.args.certificate.now c.judged_by.result
    (first c.args.dump.now c.args.certificate.now c.judged_by.result (says c))

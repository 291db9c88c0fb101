-- A walk that has come to the end of the versions.
use Rattle.std.proofs.Common.{◌∙◌, ap}
use Rattle.std.proofs.lemmas.List.{nil_from_length}
use Rattle.witness_core.specs.Walks.{left_over}
use Rattle.witness_core.proofs.Walking.{either, no-version-left}
use Rattle.witness_core.proofs.checking.claims_fault.Goals as goal

pub returns-in-Some-next : goal.returns-in-Some-next
returns-in-Some-next c =
    c.loop-version.invariant ∙ no-version-left c.args.dump.now _ _ _ (either c.in-None.ensures.steps) ∙ ap left_over c.in-Some-next.ensures.steps

pub returns-in-None-next : goal.returns-in-None-next
returns-in-None-next c =
    c.loop-version.invariant ∙ no-version-left c.args.dump.now _ _ _ (either c.in-None.ensures.steps)
    ∙ ap left_over (nil_from_length _ c.in-None-next.ensures.steps.0)

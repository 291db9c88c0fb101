-- The versions that the view shows are all that are kept, and each number fits.
use Rattle.std.proofs.Common.{◌≡◌, ◌⊎◌, Some, sym, ◌∙◌, ap, subst}
use Rattle.kv_model.specs.declared.refusal.Refusal.TheVariants.{Memory}
use Rattle.kv_model.specs.Commands.{txn_view}
use Rattle.kv_model.specs.Leases.{is_granted}
use Rattle.kv_model.specs.Txns.{path_of}
use Rattle.request_core.proofs.Planned.{all-present, plan-versions, plan-refusal}
use Rattle.request_core.proofs.store.transacting.plan_on.Goals as goal

pub returns-in-Ok-clause-path : goal.returns-in-Ok-clause-path
returns-in-Ok-clause-path c =
    let v = c.args.view.now in
    c.in-Ok.ensures.path
    ∙ ap (λ vs. path_of vs v.revision (txn_view c.args.txn.now)) (all-present v c.requires.upto c.requires.places)

pub returns-in-Ok-clause-clear : goal.returns-in-Ok-clause-clear
returns-in-Ok-clause-clear c =
    let v = c.args.view.now in
    sym (plan-refusal v (all-present v c.requires.upto c.requires.places) (is_granted c.args.leases.now.leases) (txn_view c.args.txn.now)
    c.requires.checked) ∙ c.in-Ok.ensures.clear c.requires.checked

pub returns-in-Ok-clause-versions : goal.returns-in-Ok-clause-versions
returns-in-Ok-clause-versions c =
    let v = c.args.view.now in
    c.in-Ok.ensures.versions c.requires.checked
    ∙ plan-versions v (all-present v c.requires.upto c.requires.places) c.requires.fits c.requires.counted (txn_view c.args.txn.now)
    c.requires.checked

pub returns-in-Err-clause-refused : goal.returns-in-Err-clause-refused
returns-in-Err-clause-refused c =
    let v = c.args.view.now in
    subst (λ o. (c.in-Err.refusal ≡ Memory) ⊎ (o ≡ Some c.in-Err.refusal))
    (plan-refusal v (all-present v c.requires.upto c.requires.places) (is_granted c.args.leases.now.leases) (txn_view c.args.txn.now)
    c.requires.checked) (c.in-Err.ensures.refused c.requires.checked)

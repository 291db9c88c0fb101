-- What a transaction alone makes is what its branch makes.
use Rattle.std.proofs.Common.{sym, ◌∙◌, ap, []}
use Rattle.kv_model.specs.Commands.{txn_view}
use Rattle.txn_core.specs.Planning.{versions_made_in, refusal_in}
use Rattle.txn_core.specs.Steps.{steps_view}
use Rattle.txn_core.proofs.AtOnce.{none-refused}
use Rattle.txn_core.proofs.Running.{made-txn, refusal-txn}
use Rattle.txn_core.proofs.planning.plan_at.Goals as goal

pub returns-in-Ok-clause-made : goal.returns-in-Ok-clause-made
returns-in-Ok-clause-made c =
    let v = c.args.view.now in
    let b = c.in-Ok.branch in
    c.into_versions.ensures ∙ c.in-Ok.ensures.made ∙ ap (λ ws. versions_made_in v ws (steps_view b.steps.items)) c.new-changes.ensures
    ∙ sym (made-txn v [] b.succeeded (steps_view b.steps.items)) ∙ ap (versions_made_in v []) c.in-Ok.ensures.path

pub returns-in-Ok-clause-fine : goal.returns-in-Ok-clause-fine
returns-in-Ok-clause-fine c =
    let v = c.args.view.now in
    let ls = c.args.leases.now.leases in
    let b = c.in-Ok.branch in
    ap (refusal_in v ls) (sym c.in-Ok.ensures.path) ∙ refusal-txn v ls b.succeeded (steps_view b.steps.items) ∙ c.in-Ok.ensures.fine

pub returns-in-Ok-clause-first : goal.returns-in-Ok-clause-first
returns-in-Ok-clause-first c =
    let v = c.args.view.now in
    let ls = c.args.leases.now.leases in
    let b = c.in-Ok.branch in
    none-refused v ls (txn_view c.args.txn.now)
    (ap (refusal_in v ls) (sym c.in-Ok.ensures.path) ∙ refusal-txn v ls b.succeeded (steps_view b.steps.items) ∙ c.in-Ok.ensures.fine)

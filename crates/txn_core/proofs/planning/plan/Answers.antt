-- What is planned at the end of the view's revision is the model's.
use Rattle.std.proofs.Common.{refl, sym, ◌∙◌, ap, subst, []}
use Rattle.kv_model.specs.Commands.{txn_view}
use Rattle.txn_core.specs.Planning.{IsPresent, IsRefusal, IsAtOnce, at_once_in, path_in, versions_made_in, refusal_in}
use Rattle.txn_core.proofs.Models.{path-at, made-at, refusal-at}
use Rattle.txn_core.proofs.Running.{memory-or}
use Rattle.txn_core.proofs.planning.plan.Goals as goal

pub plan_at-requires : goal.plan_at-requires
plan_at-requires c = subst IsPresent (sym c.at_end-view.ensures) refl

pub returns-in-Ok-clause-path : goal.returns-in-Ok-clause-path
returns-in-Ok-clause-path c =
    let ops = txn_view c.args.txn.now in
    c.in-Ok.ensures.path ∙ ap (λ w. path_in w ops) c.at_end-view.ensures ∙ path-at c.args.view.now ops

pub returns-in-Ok-clause-clear : goal.returns-in-Ok-clause-clear
returns-in-Ok-clause-clear c = λ checked.
    let ops = txn_view c.args.txn.now in
    let ls = c.args.leases.now.leases in
    sym (ap (λ w. refusal_in w ls (path_in w ops)) c.at_end-view.ensures ∙ refusal-at c.args.view.now ls ops checked) ∙ c.in-Ok.ensures.fine

pub returns-in-Ok-clause-versions : goal.returns-in-Ok-clause-versions
returns-in-Ok-clause-versions c = λ checked.
    let ops = txn_view c.args.txn.now in
    c.in-Ok.ensures.made ∙ ap (λ w. versions_made_in w [] (path_in w ops)) c.at_end-view.ensures ∙ made-at c.args.view.now ops checked

pub returns-in-Err-clause-refused : goal.returns-in-Err-clause-refused
returns-in-Err-clause-refused c = λ checked.
    let ops = txn_view c.args.txn.now in
    let ls = c.args.leases.now.leases in
    memory-or _ _ (subst (IsRefusal c.in-Err.refusal)
    (ap (λ w. refusal_in w ls (path_in w ops)) c.at_end-view.ensures ∙ refusal-at c.args.view.now ls ops checked) c.in-Err.ensures.refused)

pub returns-in-Ok-clause-first : goal.returns-in-Ok-clause-first
returns-in-Ok-clause-first c =
    ap (λ w. at_once_in w c.args.leases.now.leases (txn_view c.args.txn.now)) (sym c.at_end-view.ensures) ∙ c.in-Ok.ensures.first

pub returns-in-Err-clause-first : goal.returns-in-Err-clause-first
returns-in-Err-clause-first c =
    subst (λ w. IsAtOnce c.in-Err.refusal (at_once_in w c.args.leases.now.leases (txn_view c.args.txn.now))) c.at_end-view.ensures
    c.in-Err.ensures.first

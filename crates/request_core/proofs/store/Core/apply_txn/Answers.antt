use Rattle.std.proofs.Common.{ℕ, sym, ◌∙◌, ap, subst}
use Rattle.kv_model.specs.Calls.{as_call}
use Rattle.kv_model.specs.Commands.{txn_view}
use Rattle.request_core.specs.declared.answer.Todo.TheVariants as todo
use Rattle.request_core.specs.State.{CoreState}
use Rattle.request_core.specs.Commands.{CarriesOut}
use Rattle.request_core.proofs.Txns.{txn_done, txn_refuses}
use Rattle.request_core.proofs.store.Core.apply_txn.Goals as goal

pub returns-in-Ok-clause-done : goal.returns-in-Ok-clause-done
returns-in-Ok-clause-done g c =
    let before = c.revision-before.ensures.value ∙ ap (λ (s : CoreState). s.store.revision) c.self.view_is in
    subst (λ (n : ℕ). CarriesOut c.args.self.now c.run.new.self (as_call (txn_view c.args.txn.now))
    (todo.Txn n c.in-Ok.succeeded c.in-Ok.steps)) (sym before)
    (txn_done c.args.self.now c.run.new.self c.args.txn.now c.in-Ok.succeeded c.in-Ok.steps (record {
      upto = c.in-Ok.ensures.upto;
      places = c.in-Ok.ensures.places;
      fits = c.in-Ok.ensures.fits;
      clear = c.in-Ok.ensures.made.0;
      made = c.in-Ok.ensures.made.1;
      path = c.in-Ok.ensures.path;
      few = c.in-Ok.ensures.few;
    }))

pub returns-in-Err-clause-refused : goal.returns-in-Err-clause-refused
returns-in-Err-clause-refused g c =
    txn_refuses c.args.self.now c.run.new.self c.args.txn.now c.in-Err.refusal c.in-Err.ensures.refused c.in-Err.ensures.err.0

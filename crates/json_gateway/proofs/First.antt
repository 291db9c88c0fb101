-- A refusal that comes before memory is asked for is told in its own words.
use Rattle.std.proofs.Common.{◌≡◌, Bool, Option, None, Some, Result, Ok, Err, sym, ◌∙◌, ap}
use Rattle.kv_model.specs.declared.refusal.Refusal.{Refusal}
use Rattle.kv_model.specs.Answers.{fault_of, refused}
use Rattle.kv_model.specs.Calls.{Call, Ops}
use Rattle.kv_model.specs.Step.{Made, answer_of, delete_in, perform, refused_or, revoke_in, txn_in}
use Rattle.kv_model.specs.Told.{Answer}
use Rattle.kv_model.specs.World.{World}
use Rattle.store_laws.specs.Stands.{StandsFor}
use Rattle.request_core.specs.declared.answer.Receipt.{Receipt}
use Rattle.request_core.specs.State.{CoreState}
use Rattle.request_core.specs.Commands as core
use Rattle.request_core.specs.Refusing.{fault_without_memory, first_refusal}
use Rattle.json_gateway.specs.declared.outcome.Settled.{Settled}
use Rattle.json_gateway.specs.Outcomes.{wire_response}
use Rattle.txn_core.proofs.StaticFaults.{faulty}

told-first : (r : Result Answer Refusal) (e : Refusal) → first_refusal r ≡ Some e → r ≡ Err e
told-first (Ok a) e is = cc
told-first (Err f) e is = cc

told-refused : (o : Option Refusal) (m : Made) (e : Refusal) → o ≡ Some e → answer_of (refused_or o m) ≡ Err e
told-refused o m e is = ap (λ r. answer_of (refused_or r m)) is

-- the model refuses the command so
made-first : (w : World) (call : Call) (e : Refusal) → fault_without_memory w call ≡ Some e → (perform w call).0 ≡ Err e
unfolding delete_in revoke_in txn_in
made-first w (Call.range q) e is = told-first _ e is
made-first w (Call.put p) e is = told-first _ e is
made-first w (Call.delete d) e is = told-refused _ _ e is
made-first w (Call.txn cs s f) e is = told-refused _ _ e (faulty (Ops.txn cs s f Ops.no_ops) e is)
made-first w (Call.compact r physical) e is = told-first _ e is
made-first w (Call.watch watched start id) e is = told-first _ e is
made-first w (Call.grant ttl id) e is = told-first _ e is
made-first w (Call.revoke id) e is = told-refused _ _ e is
made-first w (Call.keep_alive id) e is = told-first _ e is
made-first w (Call.time_to_live id asked) e is = told-first _ e is
made-first w Call.leases e is = told-first _ e is

ok-not-err : {X E : Type 0} {x : X} {e : E} → Ok x ≡ Err e → ⊥
ok-not-err h = cc

-- so it is not accepted
pub accepted_first : (old new : CoreState) (call : Call) (r : Receipt) (s : Settled) → core.Does old new call r → (w : World)
    → StandsFor old.store w → (e : Refusal) → fault_without_memory w call ≡ Some e → wire_response s ≡ refused (fault_of e)
accepted_first old new call r s d w h e is = absurd (ok-not-err (sym (d.accepted w h).answers ∙ made-first w call e is))

-- and the core refuses it so
pub refused_first : (never : Type 0) (old new : CoreState) (call : Call) (f : Refusal) (s : Settled) → core.RefusesTo never old new call f
    → wire_response s ≡ refused (fault_of f) → (w : World) → StandsFor old.store w → (e : Refusal) → fault_without_memory w call ≡ Some e
    → wire_response s ≡ refused (fault_of e)
refused_first never old new call f s d told w h e is = told ∙ ap (λ r. refused (fault_of r)) (d.first w h e is)

use Rattle.kv_model.specs.Commands.{txn_view}
use Rattle.store_laws.specs.Stores.{path_in}
use Rattle.request_core.proofs.Planned.{planned-next}
use Rattle.request_core.proofs.Txns.{plan_refuses, want_is_behind, want_is_late}
use Rattle.request_core.proofs.store.Core.run.Goals as goal

pub append_any-requires-clause-next : goal.append_any-requires-clause-next
append_any-requires-clause-next g c = λ some.
    let s = c.args.self.now.store in
    planned-next s.revision s.versions (path_in s (txn_view c.args.txn.now)) c.in-Ok.made.versions.items c.in-Ok.ensures.counted c.in-Ok.ensures.made.1 c.in-Ok.ensures.few some

pub returns-in-Err-clause-refused : goal.returns-in-Err-clause-refused
returns-in-Err-clause-refused g c =
    plan_refuses c.args.self.now.store (txn_view c.args.txn.now) c.args.checked c.in-Err.refusal c.requires.allowed
    c.requires.faulty c.in-Err.ensures.passes c.in-Err.ensures.refused

pub returns-then-is_err-clause-refused : goal.returns-then-is_err-clause-refused
returns-then-is_err-clause-refused g c = want_is_late c.args.self.now.store (txn_view c.args.txn.now) c.in-Ok.ensures.made.0

pub returns-then-is_err-clause-first : goal.returns-then-is_err-clause-first
returns-then-is_err-clause-first g c = want_is_behind c.args.checked _ _ c.in-Ok.ensures.first

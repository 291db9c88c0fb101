use Rattle.std.proofs.Common.{sym, ◌∙◌, ap, subst, rules}
use Rattle.std.specs.Int.{w64}
use Rattle.std.specs.Int.RustNames.{FitsSigned}
use Rattle.std.proofs.lemmas.Int.{to_z-of_z}
use Rattle.kv_model.specs.Calls.{Call}
use Rattle.kv_model.specs.Commands.{call_of}
use Rattle.request_core.specs.Commands.{CarriesOut}
use Rattle.request_core.proofs.Worlds.{refuses_over}
use Rattle.request_core.proofs.store.Core.carry_out.Goals as goal

pub returns-in-TimeToLive-clause-done : goal.returns-in-TimeToLive-clause-done
returns-in-TimeToLive-clause-done g c =
    let fits : FitsSigned w64 c.in-TimeToLive.id = search rules in
    subst (λ (m : Call). CarriesOut c.args.self.now c.args.self.now m c.apply_time_to_live.result)
    (ap (λ i. Call.time_to_live i c.in-TimeToLive.keys) (to_z-of_z w64 c.in-TimeToLive.id fits) ∙ sym (ap call_of c.in-TimeToLive.is))
    c.apply_time_to_live.ensures

pub returns-in-Put-clause-refused : goal.returns-in-Put-clause-refused
returns-in-Put-clause-refused g c =
    refuses_over g.S.Sink.never_fails c.args.self.now c.apply_put.new.self _ (call_of c.args.command.now) c.apply_put.result
    (sym (ap call_of c.in-Put.is)) c.apply_put.ensures.refused

pub returns-in-Delete-clause-refused : goal.returns-in-Delete-clause-refused
returns-in-Delete-clause-refused g c =
    refuses_over g.S.Sink.never_fails c.args.self.now c.apply_delete.new.self _ (call_of c.args.command.now) c.apply_delete.result
    (sym (ap call_of c.in-Delete.is)) c.apply_delete.ensures.refused

pub returns-in-Txn-clause-refused : goal.returns-in-Txn-clause-refused
returns-in-Txn-clause-refused g c =
    refuses_over g.S.Sink.never_fails c.args.self.now c.apply_txn.new.self _ (call_of c.args.command.now) c.apply_txn.result
    (sym (ap call_of c.in-Txn.is)) c.apply_txn.ensures.refused

pub returns-in-Watch-clause-refused : goal.returns-in-Watch-clause-refused
returns-in-Watch-clause-refused g c =
    let start : FitsSigned w64 c.in-Watch.start = search rules in
    let id : FitsSigned w64 c.in-Watch.id = search rules in
    refuses_over g.S.Sink.never_fails c.args.self.now c.apply_watch.new.self _ (call_of c.args.command.now) c.apply_watch.result
    ((λ i. Call.watch c.in-Watch.watched (to_z-of_z w64 c.in-Watch.start start i) (to_z-of_z w64 c.in-Watch.id id i))
    ∙ sym (ap call_of c.in-Watch.is)) c.apply_watch.ensures.refused

pub returns-in-Grant-clause-refused : goal.returns-in-Grant-clause-refused
returns-in-Grant-clause-refused g c =
    let ttl : FitsSigned w64 c.in-Grant.ttl = search rules in
    let id : FitsSigned w64 c.in-Grant.id = search rules in
    refuses_over g.S.Sink.never_fails c.args.self.now c.apply_grant.new.self _ (call_of c.args.command.now) c.apply_grant.result
    ((λ i. Call.grant (to_z-of_z w64 c.in-Grant.ttl ttl i) (to_z-of_z w64 c.in-Grant.id id i))
    ∙ sym (ap call_of c.in-Grant.is)) c.apply_grant.ensures.refused

pub returns-in-Revoke-clause-refused : goal.returns-in-Revoke-clause-refused
returns-in-Revoke-clause-refused g c =
    let id : FitsSigned w64 c.in-Revoke.id = search rules in
    refuses_over g.S.Sink.never_fails c.args.self.now c.apply_revoke.new.self _ (call_of c.args.command.now) c.apply_revoke.result
    (ap Call.revoke (to_z-of_z w64 c.in-Revoke.id id)
    ∙ sym (ap call_of c.in-Revoke.is)) c.apply_revoke.ensures.refused

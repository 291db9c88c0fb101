-- Trimming steps as events of a run, and that they come to an end.
use Rattle.std.proofs.Common.{◌≡◌, ◌<◌, ℕ, ◌&&◌, ◌||◌, ◌==◌, Bool, true, false, Option, None, Some, Ok, refl, sym, ◌∙◌, ap, subst}
use Rattle.std.specs.Prelude.{is_none, is_some}
use Rattle.std.proofs.Math.Bool.{or-true, and-false}
use Rattle.kv_model.specs.declared.refusal.Refusal.{Refusal}
use Rattle.kv_model.specs.Calls.{Call}
use Rattle.kv_model.specs.Step.{perform, refused_or, compact_in, compact_refusal, at_least_zero, answer_of as answer_of_made}
use Rattle.kv_model.specs.Told.{Answer, Reply, Trimmed}
use Rattle.kv_model.specs.Headline.{IsDone, IsTrimmed, Keeping, Trims}
use Rattle.kv_model.specs.Questions.{IsLeast}
use Rattle.kv_model.specs.Wire.{WireTold, changes_beside, is_physical_call, trim_told}
use Rattle.kv_model.specs.Answers.{Response}
use Rattle.kv_model.specs.World.{World, revision}
use Rattle.store_laws.specs.Stands.{StandsFor}
use Rattle.store_laws.specs.TrimmingLaws.{IsVisit}
use Rattle.trim_core.specs.declared.trimmer.Trim.{Trim}
use Rattle.trim_core.specs.Told.{told_of}
use Rattle.request_core.specs.declared.answer.Receipt.{Receipt}
use Rattle.request_core.specs.Answers.{has_changed, is_beside}
use Rattle.request_core.specs.Commands.{Does, TrimsOnce}
use Rattle.request_core.specs.State.{CoreState, keeping_of}
use Rattle.json_gateway.specs.declared.outcome.Settled.{Settled}
use Rattle.json_gateway.specs.declared.outcome.Settled.TheVariants as settled
use Rattle.json_gateway.specs.Endings.{Settles, is_done, is_physical}
use Rattle.json_gateway.specs.Outcomes.{is_accepted}

-- where a step is done, a least list is kept, and nothing is left to visit
pub done_trimmed : (old new : CoreState) (t : Trim) → TrimsOnce old new t → is_done (told_of t) ≡ true → (w : World) → StandsFor old.store w
    → StandsFor new.store w × IsTrimmed w (keeping_of new)
done_trimmed old new t once e w h = ((once.trims w h).stands, by (told_of t) e once.visit ((once.trims w h).may None tt))
  where
    by : (told : Trimmed) → is_done told ≡ true → IsVisit told (keeping_of old).ahead (keeping_of new).ahead
        → Trims w (keeping_of old) (keeping_of old).ahead (trim_told told None) (keeping_of new) → IsTrimmed w (keeping_of new)
    by (Trimmed.removed q) f v m = cc
    by (Trimmed.kept q) f v m = cc
    by (Trimmed.done n) f v m =
        let done : IsDone w (keeping_of old) n None × (keeping_of new ≡ keeping_of old)
        = subst (λ us. Trims w (keeping_of old) us (WireTold.done n None) (keeping_of new)) v.0 m in
        record {
          least = subst (λ (k : Keeping). IsLeast k.kept w.mutations w.compacted) (sym done.1) done.0.least;
          visited = v.1;
        }

-- ---- whose answer waits

and-true : (b : Bool) → b ≡ (b && true)
and-true true = refl
and-true false = refl

-- a command that the model accepts waits where it is a physical Compact
accepted-waits : (w : World) (call : Call) (a : Answer) → (perform w call).0 ≡ Ok a → is_physical call ≡ is_physical_call w (Ok call)
unfolding compact_in
accepted-waits w (Call.range q) a e = refl
accepted-waits w (Call.put p) a e = refl
accepted-waits w (Call.delete d) a e = refl
accepted-waits w (Call.txn cs s f) a e = refl
accepted-waits w (Call.compact r physical) a e = by (compact_refusal w.compacted (revision w) r) e
  where
    by : (o : Option Refusal) → answer_of_made (refused_or o (Ok (Reply.compact, record w { compacted = at_least_zero r }))) ≡ Ok a
        → physical ≡ (physical && is_none o)
    by None f = and-true physical
    by (Some x) f = cc
accepted-waits w (Call.watch watched start id) a e = refl
accepted-waits w (Call.grant ttl id) a e = refl
accepted-waits w (Call.revoke id) a e = refl
accepted-waits w (Call.keep_alive id) a e = refl
accepted-waits w (Call.time_to_live id asked) a e = refl
accepted-waits w Call.leases a e = refl

pub does_wait : (old new : CoreState) (call : Call) (r : Receipt) → Does old new call r → (w : World) → StandsFor old.store w
    → (is_physical call && has_changed r) ≡ is_physical_call w (Ok call)
does_wait old new call r d w h = sym (by call (d.beside w h)) ∙ accepted-waits w call _ (d.accepted w h).answers
  where
    -- a Compact has changed something
    by : (m : Call) → is_beside r.todo ≡ changes_beside w m → is_physical m ≡ (is_physical m && has_changed r)
    by (Call.compact q physical) e = and-true physical ∙ ap (λ b. physical && b) (sym (or-true (is_some r.raised)) ∙ ap (λ b. is_some r.raised || b) (sym e))
    by (Call.range q) e = refl
    by (Call.put p) e = refl
    by (Call.delete q) e = refl
    by (Call.txn cs s f) e = refl
    by (Call.watch watched start id) e = refl
    by (Call.grant ttl id) e = refl
    by (Call.revoke id) e = refl
    by (Call.keep_alive id) e = refl
    by (Call.time_to_live id asked) e = refl
    by Call.leases e = refl

-- what ended without an answer changed nothing, so none waits
pub none_waits : (s : Settled) (a : Response) (changed physical : Bool) (now : ℕ) → Settles s a changed now → a.status ≡ 200
    → is_accepted s ≡ false → (physical && changed) ≡ false
none_waits (settled.Reply r) a changed physical now e ok unheard =
    let bad : true ≡ false = sym (ap (λ n. n == 200) (ap (λ (x : Response). x.status) e ∙ ok)) ∙ unheard in cc
none_waits settled.Memory a changed physical now e ok unheard = ap (λ b. physical && b) e ∙ and-false physical
none_waits (settled.Lost revision) a changed physical now e ok unheard = cc

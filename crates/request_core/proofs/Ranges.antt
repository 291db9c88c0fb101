-- What a Range does, in each world that the core stands for.
use Rattle.std.proofs.Common.{◌≡◌, ℕ, zero, suc, ℤ, pos, negsuc, List, Bool, true, false, cond, Option, None, Some}
use Rattle.std.proofs.Common.{nat_lt, refl, sym, ◌∙◌, ap, Bor}
use Rattle.std.specs.Option.{option_or}
use Rattle.kv_model.specs.declared.refusal.Refusal.{Refusal}
use Rattle.kv_model.specs.declared.refusal.Refusal.TheVariants.{NoKey, Compacted, Future}
use Rattle.kv_model.specs.declared.call.RangeQuery.{RangeQuery}
use Rattle.kv_model.specs.declared.version.Version.{Version}
use Rattle.kv_model.specs.declared.version.Rev.{Rev}
use Rattle.kv_model.specs.Lists.{is_empty}
use Rattle.kv_model.specs.Ranges.{RangeReply, range_reply, reply_from, refuse_if, revision_refusal}
use Rattle.kv_model.specs.Calls.{Call}
use Rattle.kv_model.specs.Step.{answer_of}
use Rattle.store_laws.specs.Stores.{refusal_of_range}
use Rattle.store_laws.proofs.StandsCommands.{range_made, range_refused}
use Rattle.request_core.specs.declared.answer.Todo.TheVariants as todo
use Rattle.request_core.specs.State.{CoreState}
use Rattle.request_core.specs.Answers.{is_memory}
use Rattle.request_core.specs.Commands.{CarriesOut, Refuses, first_refusal}
use Rattle.request_core.proofs.Worlds.{read_moves, is_refused, own_refusal}
use Rattle.store_laws.proofs.GoodLaws.{or-none}

pub range_done : (s : CoreState) (q : Bor RangeQuery) → refusal_of_range s.store q.now ≡ None
    → CarriesOut s s (Call.range q.now) (todo.Range q)
range_done s q none = record {
  makes = λ w h. record { after = w; made = range_made s.store w h q.now none; stands = h };
  allowed = or-none _ (revision_refusal s.store.compacted s.store.revision q.now.revision) none;
  beside = λ w h. refl;
  moves = read_moves s false;
}

-- ---- what is refused is not for want of memory

or-free : (a b : Option Refusal) (e : Refusal) → (a ≡ Some e → is_memory e ≡ false) → (b ≡ Some e → is_memory e ≡ false)
    → option_or a b ≡ Some e → is_memory e ≡ false
or-free (Some f) b e one two h = one h
or-free None b e one two h = two h

if-free : (t : Bool) (f e : Refusal) → is_memory f ≡ false → refuse_if t f ≡ Some e → is_memory e ≡ false
if-free true f e free h = let same : f ≡ e = cc in ap is_memory (sym same) ∙ free
if-free false f e free h = cc

revision-free : (c now : ℕ) (r : ℤ) (e : Refusal) → revision_refusal c now r ≡ Some e → is_memory e ≡ false
revision-free c now (pos zero) e h = cc
revision-free c now (negsuc n) e h = cc
revision-free c now (pos (suc r)) e h = or-free (refuse_if (nat_lt (suc r) c) (Compacted c)) (refuse_if (nat_lt now (suc r)) (Future now)) e
    (if-free (nat_lt (suc r) c) (Compacted c) e refl) (if-free (nat_lt now (suc r)) (Future now) e refl) h

pub range_refuses : (s : CoreState) (q : RangeQuery) (e : Refusal) → refusal_of_range s.store q ≡ Some e → Refuses s s (Call.range q) e
range_refuses s q e one = record {
  first = λ w h f told. let same : Some e ≡ Some f
      = sym (ap (λ m. first_refusal (answer_of m)) (range_refused s.store w h q e one)) ∙ told in cc;
  refused = λ w h. is_refused w (Call.range q) e (Some e) (own_refusal e) (λ f same. range_refused s.store w h q f (one ∙ same));
  free = λ no. or-free (refuse_if (is_empty q.range.key) NoKey) (revision_refusal s.store.compacted s.store.revision q.revision) e
      (if-free (is_empty q.range.key) NoKey e refl) (revision-free s.store.compacted s.store.revision q.revision e) one;
  kept = refl;
}

-- ---- its answer

either-revision : (n : ℕ) (b : Bool) (r s : RangeReply) → r.revision ≡ n → s.revision ≡ n → (let x : RangeReply = cond b r s in x.revision) ≡ n
either-revision n true r s h k = h
either-revision n false r s h k = k

-- a reply shows the revision of the store that was read
pub reply_revision : (vs : List Version) (now : ℕ) (p : Rev) (q : RangeQuery) → (range_reply vs now p q).revision ≡ now
unfolding range_reply reply_from
reply_revision vs now p q = either-revision now q.count_only _ _ refl refl

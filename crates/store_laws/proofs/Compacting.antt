-- Which versions answer what is asked from a compaction on.
use Rattle.std.proofs.Common.{◌≡◌, ℕ, zero, suc, ◌≤◌, pos, List, [], ◌∷◌, ◌++◌, length, Bool, true, false, ◌&&◌, cond, Option, None, Some}
use Rattle.std.proofs.Common.{option_and_then, is_some, Ok, Err, refl, sym, ◌∙◌, ap, subst, arith}
use Rattle.std.specs.Prelude.{codes, map, option_to_list}
use Rattle.std.proofs.lemmas.Bool.{le-ltb}
use Rattle.kv_model.specs.Keys.{one_key}
use Rattle.kv_model.specs.Ranges.{live, refuse_if, range_reply}
use Rattle.kv_model.specs.declared.refusal.Refusal.TheVariants.{Compacted, Future}
use Rattle.std.specs.Option.{option_or}
use Rattle.kv_model.specs.declared.version.Rev.{Rev}
use Rattle.kv_model.specs.declared.version.Version.{Version}
use Rattle.kv_model.specs.declared.version.Body.TheVariants.{Put, Gone}
use Rattle.kv_model.specs.declared.call.RangeQuery.{RangeQuery}
use Rattle.kv_model.specs.Lists.{nothing, keep, leave}
use Rattle.kv_model.specs.Keys.{same_key}
use Rattle.kv_model.specs.History.{dress, value_at, end_of, key_value, latest, rev_le, shown, Mutation, KeyValue, now}
use Rattle.kv_model.specs.Ranges.{plain_range, range_answer, range_refusal, reply_from, unless_refused, read_place}
use Rattle.kv_model.specs.Watches.{event_of, matches}
use Rattle.kv_model.specs.Questions.{Question, IsQuestion, IsRangeAt, IsKept, Answered, answered, IsGood}
use Rattle.store_laws.specs.Laws.{put_delete_put, last_put, LastPutIsLeast}
use Rattle.store_laws.proofs.KeyLaws.{live-same, live-one}
use Rattle.store_laws.proofs.HistoryLaws.{last_that-append, option_or-none}

place-asked : (r : ℕ) (p : Rev) → 1 ≤ r → read_place (pos r) p ≡ end_of r
place-asked zero p h = absurd (omega arith)
place-asked (suc r) p h = refl

-- what holds the same at the end of a revision answers the same Ranges at it
pub same_ranges : (us vs : List Version) (c n r : ℕ) (p : Rev) (q : RangeQuery) → 1 ≤ r → q.revision ≡ pos r
    → ((k : List ℕ) → value_at us (end_of r) k ≡ value_at vs (end_of r) k) → range_answer us c n p q ≡ range_answer vs c n p q
unfolding range_reply reply_from
same_ranges us vs c n r p q h e same =
    ap (λ kvs. unless_refused (range_refusal c n q) (reply_from q n kvs))
    (live-same us vs (read_place q.revision p) q.range (λ k. rw (e, place-asked) (same k)))

-- ---- a is put and deleted, b is put, and all is compacted

abbrev put_a : Version
put_a = record { rev = record { main = 2; sub = 0 }; key = codes "a"; body = Put 2 1 (pos 0) (codes "1") }

abbrev no_a : Version
no_a = record { rev = record { main = 3; sub = 0 }; key = codes "a"; body = Gone }

abbrev put_b : Version
put_b = record { rev = record { main = 4; sub = 0 }; key = codes "b"; body = Put 4 1 (pos 0) (codes "1") }

held_at_four : (k : List ℕ) → value_at last_put (end_of 4) k ≡ value_at (dress put_delete_put) (end_of 4) k
unfolding value_at dress
held_at_four k = by (same_key (codes "a") k) (same_key (codes "b") k)
  where
    by : (a b : Bool) → option_and_then key_value (option_or None (cond (b && true) (Some put_b) None))
        ≡ option_and_then key_value (option_or (option_or (option_or None (cond (b && true) (Some put_b) None)) (cond (a
        && true) (Some no_a) None)) (cond (a && true) (Some put_a) None))
    by true true = refl
    by true false = refl
    by false true = refl
    by false false = refl

four : (r : ℕ) → IsKept 4 4 r → r ≡ 4
four r k = omega arith

answers : (q : Question) → IsQuestion 4 4 q → answered last_put 4 4 q ≡ answered (dress put_delete_put) 4 4 q
unfolding dress value_at
answers (Question.range q) a = ap Answered.range (same_ranges last_put (dress put_delete_put) 4 4 4 (end_of 4) q (omega arith) (a.is
    ∙ ap pos (four a.revision a.kept)) held_at_four)
answers (Question.watch w r) a = subst (λ n. answered last_put 4 4 (Question.watch w n)
    ≡ answered (dress put_delete_put) 4 4 (Question.watch w n)) (sym (four r a)) (by (matches w put_b))
  where
    by : (b : Bool) → Answered.watch (map (event_of last_put 4 w) (cond b (put_b ∷ []) []))
        ≡ Answered.watch (map (event_of (dress put_delete_put) 4 w) (cond b (put_b ∷ []) []))
    by true = refl
    by false = refl

shown_count : Answered → ℕ
shown_count (Answered.range (Ok r)) = r.count
shown_count (Answered.range (Err e)) = 0
shown_count (Answered.watch es) = 0

least : (us : List Version) → IsGood us put_delete_put 4 → 1 ≤ length us
unfolding shown_count range_reply reply_from live dress value_at
least [] g =
    let q : RangeQuery = plain_range (codes "b") 4 in
    let asked : IsRangeAt 4 4 q = record {
      revision = 4;
      is = refl;
      kept = record {
        first = omega arith;
        kept = omega arith;
        past = omega arith;
      };
      has_key = λ e. cc;
    } in
    let same : ◌≡◌ {A = ℕ} 0 1 = ap shown_count (g.answers (Question.range q) asked) in cc
least (u ∷ us) g = omega arith

pub last_put_least : LastPutIsLeast
unfolding dress
last_put_least = record { good = record { part = leave (leave (keep nothing)); answers = answers }; least = least }

-- ---- what may be taken out

pub latest-out : (xs : List Version) (v : Version) (ys : List Version) (p : Rev) (k : List ℕ) (b : Bool)
    → (same_key v.key k && rev_le v.rev p) ≡ b
    → latest (xs ++ v ∷ ys) p k ≡ option_or (option_or (latest ys p k) (cond b (Some v) None)) (latest xs p k)
latest-out xs v ys p k b e = last_that-append (λ u. same_key u.key k && rev_le u.rev p) xs (v ∷ ys)
    ∙ ap (λ a. option_or (option_or (latest ys p k) (cond a (Some v) None)) (latest xs p k)) e

latest-rest : (xs ys : List Version) (p : Rev) (k : List ℕ) → latest (xs ++ ys) p k ≡ option_or (latest ys p k) (latest xs p k)
latest-rest xs ys p k = last_that-append (λ u. same_key u.key k && rev_le u.rev p) xs ys

or_some : {X : Type 0} (o p : Option X) → is_some o ≡ true → option_or o p ≡ o
or_some None p h = cc
or_some (Some x) p h = refl

-- a version that a later one of its key hides at the place
pub superseded-out : (xs : List Version) (v : Version) (ys : List Version) (p : Rev) (k : List ℕ)
    → ((same_key v.key k && rev_le v.rev p) ≡ true → is_some (latest ys p k) ≡ true) → value_at (xs ++ v ∷ ys) p k ≡ value_at (xs ++ ys) p k
unfolding value_at
superseded-out xs v ys p k h = by (same_key v.key k && rev_le v.rev p) refl
  where
    by : (b : Bool) → (same_key v.key k && rev_le v.rev p) ≡ b → value_at (xs ++ v ∷ ys) p k ≡ value_at (xs ++ ys) p k
    by true e = ap (option_and_then key_value) (latest-out xs v ys p k true e
        ∙ ap (λ o. option_or o (latest xs p k)) (or_some (latest ys p k) (Some v) (h e)) ∙ sym (latest-rest xs ys p k))
    by false e = ap (option_and_then key_value) (latest-out xs v ys p k false e
        ∙ ap (λ o. option_or o (latest xs p k)) (option_or-none (latest ys p k)) ∙ sym (latest-rest xs ys p k))

tombstone-shows : (v : Version) → v.body ≡ Gone → key_value v ≡ None
tombstone-shows v e = ap (shown v.rev.main v.key) e

-- a tombstone with no version of its key before it
pub tombstone-out : (xs : List Version) (v : Version) (ys : List Version) (p : Rev) (k : List ℕ) → v.body ≡ Gone
    → ((same_key v.key k && rev_le v.rev p) ≡ true → latest xs p k ≡ None) → value_at (xs ++ v ∷ ys) p k ≡ value_at (xs ++ ys) p k
unfolding value_at
tombstone-out xs v ys p k gone h = by (same_key v.key k && rev_le v.rev p) refl
  where
    later : (o : Option Version) → option_and_then key_value (option_or (option_or o (Some v)) None)
        ≡ option_and_then key_value (option_or o None)
    later None = tombstone-shows v gone
    later (Some u) = refl

    by : (b : Bool) → (same_key v.key k && rev_le v.rev p) ≡ b → value_at (xs ++ v ∷ ys) p k ≡ value_at (xs ++ ys) p k
    by true e = ap (option_and_then key_value) (latest-out xs v ys p k true e ∙ ap (option_or (option_or (latest ys p k) (Some v))) (h e))
        ∙ later (latest ys p k)
        ∙ sym (ap (option_and_then key_value) (latest-rest xs ys p k ∙ ap (option_or (latest ys p k)) (h e)))
    by false e = ap (option_and_then key_value) (latest-out xs v ys p k false e
        ∙ ap (λ o. option_or o (latest xs p k)) (option_or-none (latest ys p k)) ∙ sym (latest-rest xs ys p k))

-- ---- what answers alike holds alike

not_refused : (c n r : ℕ) (x : ℕ) (k : List ℕ) → IsKept c n r → range_refusal c n (plain_range (x ∷ k) r) ≡ None
not_refused c n zero x k h = absurd (omega arith)
not_refused c n (suc r) x k h = λ i. option_or (refuse_if (le-ltb (suc r) c h.kept i) (Compacted c))
    (refuse_if (le-ltb n (suc r) h.past i) (Future n))

unfoldable pub kvs_of : Answered → List KeyValue
kvs_of (Answered.range (Ok r)) = r.kvs
kvs_of (Answered.range (Err e)) = []
kvs_of (Answered.watch es) = []

plain_kvs : (n r : ℕ) (k : List ℕ) (o : Option KeyValue) → (reply_from (plain_range k r) n (option_to_list o)).kvs ≡ option_to_list o
unfolding reply_from
plain_kvs n r k (Some kv) = refl
plain_kvs n r k None = refl

pub plain_shows : (us : List Version) (c n r : ℕ) (x : ℕ) (k : List ℕ) → IsKept c n r
    → kvs_of (answered us c n (Question.range (plain_range (x ∷ k) r))) ≡ option_to_list (value_at us (end_of r) (x ∷ k))
unfolding kvs_of range_reply reply_from
plain_shows us c n r x k h =
    ap (λ o. kvs_of (Answered.range (unless_refused o (reply_from (plain_range (x ∷ k) r) n (live us (read_place (pos r) (end_of n))
    (one_key (x ∷ k))))))) (not_refused c n r x k h)
    ∙ ap (λ p. (reply_from (plain_range (x ∷ k) r) n (live us p (one_key (x ∷ k)))).kvs) (place-asked r (end_of n) h.first)
    ∙ ap (λ kvs. (reply_from (plain_range (x ∷ k) r) n kvs).kvs) (live-one us (end_of r) (x ∷ k))
    ∙ plain_kvs n r (x ∷ k) (value_at us (end_of r) (x ∷ k))

pub one_listed : {X : Type 0} (o p : Option X) → option_to_list o ≡ option_to_list p → o ≡ p
one_listed None None h = refl
one_listed None (Some y) h = cc
one_listed (Some x) None h = cc
one_listed (Some x) (Some y) h = cc

-- a good part holds what the whole history holds, at each revision that is kept
pub good-values : (vs : List Version) (ms : List Mutation) (c r : ℕ) (x : ℕ) (k : List ℕ) → IsGood vs ms c → IsKept c (now ms) r
    → value_at vs (end_of r) (x ∷ k) ≡ value_at (dress ms) (end_of r) (x ∷ k)
good-values vs ms c r x k g h =
    let asked : IsRangeAt c (now ms) (plain_range (x ∷ k) r) = record { revision = r; is = refl; kept = h; has_key = λ e. cc } in
    one_listed _ _ (sym (plain_shows vs c (now ms) r x k h) ∙ ap kvs_of (g.answers (Question.range (plain_range (x ∷ k) r)) asked)
    ∙ plain_shows (dress ms) c (now ms) r x k h)

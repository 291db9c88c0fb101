-- A good part holds, at every revision that is kept, what the whole history holds, and so answers every read as it does.
use Rattle.std.proofs.Common.{◌≡◌, ◌≤◌, ◌≢◌, ℕ, zero, suc, ℤ, pos, negsuc, List, [], ◌∷◌, Bool, true, false, cond, Option, None, Some}
use Rattle.std.proofs.Common.{filter_map, Ok, refl, sym, ◌∙◌, ap, arith}
use Rattle.std.specs.Prelude.{nat_lt}
use Rattle.std.proofs.lemmas.Bool.{ltb-false}
use Rattle.std.specs.Option.{option_or}
use Rattle.std.specs.List.{AllByRecursion}
use Rattle.kv_model.specs.declared.version.Rev.{Rev}
use Rattle.kv_model.specs.declared.version.Version.{Version}
use Rattle.kv_model.specs.declared.version.KeyRange.{KeyRange}
use Rattle.kv_model.specs.declared.call.RangeQuery.{RangeQuery}
use Rattle.kv_model.specs.declared.refusal.Refusal.{Refusal}
use Rattle.kv_model.specs.declared.refusal.Refusal.TheVariants.{NoKey, Compacted}
use Rattle.kv_model.specs.Lists.{is_empty, IsPart}
use Rattle.kv_model.specs.Keys.{same_key, in_range}
use Rattle.kv_model.specs.History.{Mutation, now, dress, value_at, value_now, end_of, rev_le}
use Rattle.store_laws.specs.Sound.{IsChange, IsHistory}
use Rattle.kv_model.specs.Ranges.{keys, live, live_now, value_within, value_now_within, range_reply, reply_from, range_answer}
use Rattle.kv_model.specs.Ranges.{range_refusal, revision_refusal, refuse_if, unless_refused, read_place}
use Rattle.kv_model.specs.Questions.{IsKept, IsGood}
use Rattle.store_laws.proofs.HistoryLaws.{same_key-eq}
use Rattle.store_laws.proofs.KeyLaws.{live-same}
use Rattle.store_laws.proofs.Compacting.{good-values}
use Rattle.store_laws.proofs.PlaceLaws.{AreBy, each-map, each-part, each-dressed, each-change, mains-by, now-above, rev_le-end, value_at-by}
use Rattle.store_laws.proofs.PlaceLaws.{value_at-absent}

-- ---- small steps

pub each-both : {X : Type 0} (P Q : X → Type 0) (xs : List X) → AllByRecursion P xs → AllByRecursion Q xs → AllByRecursion (λ x. P x
    × Q x) xs
each-both P Q [] g h = tt
each-both P Q (x ∷ xs) g h = ((g.0, h.0), each-both P Q xs g.1 h.1)

pub other_key : (k l : List ℕ) → k ≢ l → same_key k l ≡ false
other_key k l h = by (same_key k l) refl
  where
    by : (b : Bool) → same_key k l ≡ b → b ≡ false
    by true e = absurd (h (same_key-eq k l e))
    by false e = refl

-- ---- a history and its parts lie before the end of its revision

pub dressed-before : (ms : List Mutation) (r : ℕ) → IsHistory ms → now ms ≤ r → AreBy (end_of r) (dress ms)
dressed-before ms r h l = each-dressed (λ p k. rev_le p (end_of r) ≡ true) ms
    (each-map (λ m. (m.rev.main ≤ now ms) × IsChange m) (λ m. rev_le m.rev (end_of r) ≡ true) (λ m f. rev_le-end m.rev r (let e : m.rev.main ≤ now ms = f.0 in omega arith) f.1.number) ms
    (each-both (λ m. m.rev.main ≤ now ms) IsChange ms (mains-by ms h) (each-change ms h)))

pub dressed-by : (ms : List Mutation) → IsHistory ms → AreBy (end_of (now ms)) (dress ms)
dressed-by ms h = dressed-before ms (now ms) h (omega arith)

pub part-by : (vs : List Version) (ms : List Mutation) → IsPart vs (dress ms) → IsHistory ms → AreBy (end_of (now ms)) vs
part-by vs ms p h = each-part (λ v. rev_le v.rev (end_of (now ms)) ≡ true) p (dressed-by ms h)

pub part-value_now : (vs : List Version) (ms : List Mutation) (k : List ℕ) → IsPart vs (dress ms) → IsHistory ms
    → value_at vs (end_of (now ms)) k ≡ value_now vs k
part-value_now vs ms k p h = value_at-by vs (end_of (now ms)) k (part-by vs ms p h)

-- no version has an empty key
no-empty : (ms : List Mutation) → IsHistory ms → AllByRecursion (λ v. same_key v.key [] ≡ false) (dress ms)
no-empty ms h = each-dressed (λ p k. same_key k [] ≡ false) ms (each-map IsChange (λ m. same_key m.key []
    ≡ false) (λ m c. other_key m.key [] c.has_key) ms (each-change ms h))

-- ---- what a good part holds

-- the present revision is kept
pub now-kept : (ms : List Mutation) (c : ℕ) → IsHistory ms → c ≤ now ms → IsKept c (now ms) (now ms)
now-kept ms c h f = record { first = now-above ms h; kept = f; past = omega arith }

pub good-value_at : (vs : List Version) (ms : List Mutation) (c r : ℕ) (k : List ℕ) → IsGood vs ms c → IsHistory ms → IsKept c (now ms) r
    → value_at vs (end_of r) k ≡ value_at (dress ms) (end_of r) k
good-value_at vs ms c r [] g h f =
    value_at-absent vs (end_of r) [] (each-part (λ v. same_key v.key [] ≡ false) g.part (no-empty ms h))
    ∙ sym (value_at-absent (dress ms) (end_of r) [] (no-empty ms h))
good-value_at vs ms c r (x ∷ k) g h f = good-values vs ms c r x k g f

pub good-value_now : (vs : List Version) (ms : List Mutation) (c : ℕ) (k : List ℕ) → IsGood vs ms c → IsHistory ms → c ≤ now ms
    → value_now vs k ≡ value_now (dress ms) k
good-value_now vs ms c k g h f =
    sym (part-value_now vs ms k g.part h) ∙ good-value_at vs ms c (now ms) k g h (now-kept ms c h f)
    ∙ value_at-by (dress ms) (end_of (now ms)) k (dressed-by ms h)

pub good-live : (vs : List Version) (ms : List Mutation) (c r : ℕ) (range : KeyRange) → IsGood vs ms c → IsHistory ms → IsKept c (now ms) r
    → live vs (end_of r) range ≡ live (dress ms) (end_of r) range
good-live vs ms c r range g h f = live-same vs (dress ms) (end_of r) range (λ k. good-value_at vs ms c r k g h f)

-- what is live at last is live behind all versions
pub live_now-by : (vs : List Version) (p : Rev) (r : KeyRange) → AreBy p vs → live_now vs r ≡ live vs p r
unfolding live_now live
live_now-by vs p r h =
    let same : value_within vs p r ≡ value_now_within vs r = λ i k. cond (in_range r k) (value_at-by vs p k h i) None in
    ap (λ g. filter_map g (keys vs)) (sym same)

-- ---- reads

pub or-none : {X : Type 0} (a b : Option X) → option_or a b ≡ None → b ≡ None
or-none None b e = e
or-none (Some x) b e = cc

pub or-none-first : {X : Type 0} (a b : Option X) → option_or a b ≡ None → a ≡ None
or-none-first None b e = refl
or-none-first (Some x) b e = cc

pub not-refused : (b : Bool) (e : Refusal) → refuse_if b e ≡ None → b ≡ false
not-refused true e h = cc
not-refused false e h = refl

-- a read that is not refused reads at the end of a revision that is kept
pub read-kept : (c n : ℕ) (z : ℤ) → IsKept c n n → revision_refusal c n z ≡ None → (r : ℕ) × IsKept c n r × (read_place z (end_of n)
    ≡ end_of r)
read-kept c n (pos zero) k e = (n, k, refl)
read-kept c n (negsuc m) k e = (n, k, refl)
read-kept c n (pos (suc r)) k e =
    let above : nat_lt (suc r) c ≡ false = not-refused _ _ (or-none-first _ _ e) in
    let past : nat_lt n (suc r) ≡ false = not-refused _ _ (or-none (refuse_if (nat_lt (suc r) c) (Compacted c)) _ e) in
    (suc r, record { first = omega arith; kept = ltb-false (suc r) c above; past = ltb-false n (suc r) past }, refl)

-- a good part answers every Range as the whole history does
pub good-range_answer : (vs : List Version) (ms : List Mutation) (c : ℕ) (q : RangeQuery) → IsGood vs ms c → IsHistory ms → c ≤ now ms
    → range_answer vs c (now ms) (end_of (now ms)) q ≡ range_answer (dress ms) c (now ms) (end_of (now ms)) q
unfolding range_reply
good-range_answer vs ms c q g h f = by (range_refusal c (now ms) q) refl
  where
    by : (o : Option Refusal) → range_refusal c (now ms) q ≡ o
        → unless_refused o (range_reply vs (now ms) (end_of (now ms)) q)
        ≡ unless_refused o (range_reply (dress ms) (now ms) (end_of (now ms)) q)
    by (Some e) is = refl
    by None is =
        let at : (r : ℕ) × IsKept c (now ms) r × (read_place q.revision (end_of (now ms)) ≡ end_of r) = read-kept c (now ms) q.revision
        (now-kept ms c h f) (or-none (refuse_if (is_empty q.range.key) NoKey) _ is) in
        ap (λ kvs. Ok (reply_from q (now ms) kvs)) (rw at.2 (good-live vs ms c at.0 q.range g h at.1))

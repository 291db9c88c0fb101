-- What a place in the history sees of versions: those behind it count for nothing, and behind all of them it sees the last.
use Rattle.std.proofs.Common.{◌≡◌, ◌≤◌, ◌<◌, ℕ, ◌-◌, ◌^◌, List, [], ◌∷◌, ◌++◌, Bool, true, false, ◌&&◌, cond, Option, None, Some}
use Rattle.std.proofs.Common.{option_and_then, filter, refl, sym, ◌∙◌, ap, arith}
use Rattle.std.specs.Option.{option_or}
use Rattle.std.specs.List.{AllByRecursion}
use Rattle.std.specs.declared.cmp.Ordering.{Ordering}
use Rattle.std.specs.declared.cmp.Ordering.TheVariants.{Less, Equal, Greater}
use Rattle.std.specs.Ordering.{nat_cmp, ordering_then, is_le, MatchOrdering}
use Rattle.std.specs.Cmp.{ranks}
use Rattle.std.proofs.Math.Bool.{and-false, and-true}
use Rattle.kv_model.specs.declared.version.Rev.{Rev}
use Rattle.kv_model.specs.declared.version.Version.{Version}
use Rattle.kv_model.specs.Lists.{IsPart, nothing, keep, leave, last_that}
use Rattle.kv_model.specs.Keys.{same_key}
use Rattle.kv_model.specs.History.{Mutation, now, now_after, dress, dress_after, latest, value_at, value_now}
use Rattle.store_laws.specs.Sound.{IsChange, IsBefore, IsHistory}
use Rattle.kv_model.specs.History.{key_value, rev_le, end_of}
use Rattle.store_laws.proofs.HistoryLaws.{last_that-append}
use Rattle.store_laws.proofs.RevOrder.{rev_lt-main}

-- ---- what holds of each element

pub each-map : {X : Type 0} (P Q : X → Type 0) → ((x : X) → P x → Q x) → (xs : List X) → AllByRecursion P xs → AllByRecursion Q xs
each-map P Q f [] h = tt
each-map P Q f (x ∷ xs) h = (f x h.0, each-map P Q f xs h.1)

pub each-part : {X : Type 0} (P : X → Type 0) {xs ys : List X} → IsPart xs ys → AllByRecursion P ys → AllByRecursion P xs
each-part P nothing h = tt
each-part P (keep p) h = (h.0, each-part P p h.1)
each-part P (leave p) h = each-part P p h.1

pub each-append : {X : Type 0} (P : X → Type 0) (xs ys : List X) → AllByRecursion P xs → AllByRecursion P ys → AllByRecursion P (xs ++ ys)
each-append P [] ys g h = h
each-append P (x ∷ xs) ys g h = (g.0, each-append P xs ys g.1 h)

pub each-filter : {X : Type 0} (P : X → Type 0) (t : X → Bool) (xs : List X) → AllByRecursion P xs → AllByRecursion P (filter t xs)
each-filter P t [] h = tt
each-filter P t (x ∷ xs) h = by (t x) (each-filter P t xs h.1)
  where
    by : (b : Bool) → AllByRecursion P (filter t xs) → AllByRecursion P (cond b (x ∷ filter t xs) (filter t xs))
    by true rest = (h.0, rest)
    by false rest = rest

-- ---- the last that passes a test

pub last_that-same : {X : Type 0} (p q : X → Bool) (xs : List X) → AllByRecursion (λ x. p x ≡ q x) xs → last_that p xs ≡ last_that q xs
last_that-same p q [] h = refl
last_that-same p q (x ∷ xs) h = λ i. option_or (last_that-same p q xs h.1 i) (cond (h.0 i) (Some x) None)

pub last_that-none : {X : Type 0} (p : X → Bool) (xs : List X) → AllByRecursion (λ x. p x ≡ false) xs → last_that p xs ≡ None
last_that-none p [] h = refl
last_that-none p (x ∷ xs) h = λ i. option_or (last_that-none p xs h.1 i) (cond (h.0 i) (Some x) None)

-- ---- places

-- each version stands at the place or before it
abbrev pub AreBy : Rev → List Version → Type 0
AreBy p vs = AllByRecursion (λ v. rev_le v.rev p ≡ true) vs

-- each version stands behind the place
abbrev pub AreBehind : Rev → List Version → Type 0
AreBehind p vs = AllByRecursion (λ v. rev_le v.rev p ≡ false) vs

-- what stands behind the place is not seen
pub latest-behind : (vs us : List Version) (p : Rev) (k : List ℕ) → AreBehind p us → latest (vs ++ us) p k ≡ latest vs p k
latest-behind vs us p k h =
    last_that-append (λ v. same_key v.key k && rev_le v.rev p) vs us
    ∙ ap (λ o. option_or o (latest vs p k)) (last_that-none (λ v. same_key v.key k && rev_le v.rev p) us
    (each-map (λ v. rev_le v.rev p ≡ false) (λ v. (same_key v.key k && rev_le v.rev p) ≡ false) (λ v e. ap (λ b. same_key v.key k && b) e
    ∙ and-false (same_key v.key k)) us h))

pub value_at-behind : (vs us : List Version) (p : Rev) (k : List ℕ) → AreBehind p us → value_at (vs ++ us) p k ≡ value_at vs p k
unfolding value_at
value_at-behind vs us p k h = ap (option_and_then key_value) (latest-behind vs us p k h)

-- behind all versions a key holds what it holds at last
pub value_at-by : (vs : List Version) (p : Rev) (k : List ℕ) → AreBy p vs → value_at vs p k ≡ value_now vs k
unfolding value_at value_now
value_at-by vs p k h = ap (option_and_then key_value) (last_that-same (λ v. same_key v.key k && rev_le v.rev p) (λ v. same_key v.key k) vs
    (each-map (λ v. rev_le v.rev p ≡ true) (λ v. (same_key v.key k && rev_le v.rev p) ≡ same_key v.key k) (λ v e. ap (λ b. same_key v.key k
    && b) e ∙ and-true (same_key v.key k)) vs h))

or-same : (t : Option Version) (a b : Option Version) → option_and_then key_value a ≡ option_and_then key_value b
    → option_and_then key_value (option_or t a) ≡ option_and_then key_value (option_or t b)
or-same None a b e = e
or-same (Some v) a b e = refl

-- lists that hold the same of a key do so when both grow by the same versions
pub value_at-grows : (vs bs us : List Version) (p : Rev) (k : List ℕ) → value_at vs p k ≡ value_at bs p k → value_at (vs ++ us) p k
    ≡ value_at (bs ++ us) p k
unfolding value_at
value_at-grows vs bs us p k e =
    let test : Version → Bool = λ v. same_key v.key k && rev_le v.rev p in
    ap (option_and_then key_value) (last_that-append test vs us) ∙ or-same (latest us p k) (latest vs p k) (latest bs p k) e
    ∙ sym (ap (option_and_then key_value) (last_that-append test bs us))

pub value_now-grows : (vs bs us : List Version) (k : List ℕ) → value_now vs k ≡ value_now bs k → value_now (vs ++ us) k
    ≡ value_now (bs ++ us) k
unfolding value_now
value_now-grows vs bs us k e =
    let test : Version → Bool = λ v. same_key v.key k in
    ap (option_and_then key_value) (last_that-append test vs us) ∙ or-same (last_that test us) (last_that test vs) (last_that test bs) e
    ∙ sym (ap (option_and_then key_value) (last_that-append test bs us))

-- a key that no version has holds nothing
pub value_at-absent : (vs : List Version) (p : Rev) (k : List ℕ) → AllByRecursion (λ v. same_key v.key k ≡ false) vs → value_at vs p k
    ≡ None
unfolding value_at
value_at-absent vs p k h = ap (option_and_then key_value) (last_that-none (λ v. same_key v.key k && rev_le v.rev p) vs
    (each-map (λ v. same_key v.key k ≡ false) (λ v. (same_key v.key k && rev_le v.rev p) ≡ false) (λ v e. ap (λ b. b && rev_le v.rev p) e)
    vs h))

-- ---- the order of places, in numbers

-- a revision ends behind each of its places
pub rev_le-end : (p : Rev) (r : ℕ) → p.main ≤ r → p.sub < 2 ^ 64 → rev_le p (end_of r) ≡ true
rev_le-end p r h s = by (nat_cmp p.main r) (ranks p.main r) (nat_cmp p.sub (2 ^ 64 - 1)) (ranks p.sub (2 ^ 64 - 1))
  where
    by : (o : Ordering) → MatchOrdering o (p.main < r) (p.main ≡ r) (r < p.main)
        → (t : Ordering) → MatchOrdering t (p.sub < 2 ^ 64 - 1) (p.sub ≡ 2 ^ 64 - 1) (2 ^ 64 - 1 < p.sub) → is_le (ordering_then o t) ≡ true
    by Less a t b = refl
    by Equal a Less b = refl
    by Equal a Equal b = refl
    by Equal a Greater b = absurd (omega arith)
    by Greater a t b = absurd (omega arith)

pub rev_le-after : (p q : Rev) → q.main < p.main → rev_le p q ≡ false
rev_le-after p q h = by (nat_cmp p.main q.main) (ranks p.main q.main) (nat_cmp p.sub q.sub)
  where
    by : (o : Ordering) → MatchOrdering o (p.main < q.main) (p.main ≡ q.main) (q.main < p.main) → (t : Ordering) → is_le (ordering_then o t)
        ≡ false
    by Less a t = absurd (omega arith)
    by Equal a t = absurd (omega arith)
    by Greater a t = refl

pub rev_le-before : (p q : Rev) → p.main < q.main → rev_le p q ≡ true
rev_le-before p q h = by (nat_cmp p.main q.main) (ranks p.main q.main) (nat_cmp p.sub q.sub)
  where
    by : (o : Ordering) → MatchOrdering o (p.main < q.main) (p.main ≡ q.main) (q.main < p.main) → (t : Ordering) → is_le (ordering_then o t)
        ≡ true
    by Less a t = refl
    by Equal a t = absurd (omega arith)
    by Greater a t = absurd (omega arith)

-- ---- the changes of a history and their versions

-- what holds of each change's place and key holds of each version's
pub each-dressed : (P : Rev → List ℕ → Type 0) (ms : List Mutation) → AllByRecursion (λ m. P m.rev m.key) ms
    → AllByRecursion (λ v. P v.rev v.key) (dress ms)
unfolding dress
each-dressed P = go []
  where
    go : (before ms : List Mutation) → AllByRecursion (λ m. P m.rev m.key) ms → AllByRecursion (λ v. P v.rev v.key) (dress_after before ms)
    go before [] h = tt
    go before (m ∷ ms) h = (h.0, go (before ++ m ∷ []) ms h.1)

pub each-change : (ms : List Mutation) → IsHistory ms → AllByRecursion IsChange ms
each-change [] h = tt
each-change (m ∷ ms) h = (h.0, each-change ms h.2)

-- the revision after some changes is not below any of them
now_after-above : (r : ℕ) (ms : List Mutation) → AllByRecursion (λ m. r ≤ m.rev.main) ms → IsHistory ms → (r ≤ now_after r ms)
    × AllByRecursion (λ m. m.rev.main ≤ now_after r ms) ms
now_after-above r [] a h = (omega arith, tt)
now_after-above r (m ∷ ms) a h =
    let later : AllByRecursion (λ n. m.rev.main ≤ n.rev.main) ms = each-map (IsBefore m) (λ n. m.rev.main ≤ n.rev.main)
    (λ n b. rev_lt-main m.rev n.rev b.0) ms h.1 in
    let rest : (m.rev.main ≤ now_after m.rev.main ms) × AllByRecursion (λ n. n.rev.main ≤ now_after m.rev.main ms) ms = now_after-above
    m.rev.main ms later h.2 in
    let first : r ≤ m.rev.main = a.0 in
    (omega arith, (rest.0, rest.1))

pub above-one : (m : Mutation) → IsChange m → 1 ≤ m.rev.main
above-one m h = omega arith

-- no change of a history is behind its revision
pub mains-by : (ms : List Mutation) → IsHistory ms → AllByRecursion (λ m. m.rev.main ≤ now ms) ms
mains-by ms h = (now_after-above 1 ms (each-map IsChange (λ m. 1 ≤ m.rev.main) above-one ms (each-change ms h)) h).1

pub now-above : (ms : List Mutation) → IsHistory ms → 1 ≤ now ms
now-above ms h = (now_after-above 1 ms (each-map IsChange (λ m. 1 ≤ m.rev.main) above-one ms (each-change ms h)) h).0

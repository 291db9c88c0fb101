-- The deletes of live keys: the keys ascend and are not empty, so their deletes are the changes of one revision.
use Rattle.std.proofs.Common.{◌≡◌, ◌≤◌, ◌<◌, ◌≢◌, ℕ, suc, ◌+◌, ◌^◌, List, [], ◌∷◌, length, Bool, true, false, ◌&&◌, cond, Option, None}
use Rattle.std.proofs.Common.{Some, option_and_then, is_some, filter, filter_map, refl, sym, ◌∙◌, ap, subst, arith}
use Rattle.std.specs.Option.{option_or}
use Rattle.std.specs.List.{AllByRecursion, cons_option}
use Rattle.std.specs.declared.cmp.Ordering.{Ordering}
use Rattle.std.specs.declared.cmp.Ordering.TheVariants.{Less, Equal, Greater}
use Rattle.std.specs.Ordering.{match_ordering}
use Rattle.kv_model.specs.declared.version.Rev.{Rev}
use Rattle.kv_model.specs.declared.version.Version.{Version}
use Rattle.kv_model.specs.declared.version.Body.{Body}
use Rattle.kv_model.specs.declared.version.Body.TheVariants.{Put, Gone}
use Rattle.kv_model.specs.declared.version.KeyRange.{KeyRange}
use Rattle.kv_model.specs.Lists.{last_that}
use Rattle.kv_model.specs.Keys.{key_cmp, same_key, in_range}
use Rattle.kv_model.specs.History.{Mutation, Action, KeyValue, shown, key_value, latest, value_at, rev_le}
use Rattle.store_laws.specs.Sound.{IsBefore, IsHistory, IsBatch}
use Rattle.kv_model.specs.Ranges.{insert_key, keys, live, value_within, keys_of}
use Rattle.kv_model.specs.Txns.{deletes_of}
use Rattle.store_laws.proofs.HistoryLaws.{same_key-eq}
use Rattle.store_laws.proofs.KeyLaws.{cmp-refl, AllAbove, IsAscending, ascending-filter, ascending-keys}
use Rattle.store_laws.proofs.PlaceLaws.{each-filter}
use Rattle.store_laws.proofs.RevOrder.{rev_lt-subs}

-- ---- the key that a value is shown under

pub last_that-passes : {X : Type 0} (p : X → Bool) (xs : List X) (x : X) → last_that p xs ≡ Some x → p x ≡ true
last_that-passes p [] x e = cc
last_that-passes {X} p (y ∷ ys) x e = by (last_that p ys) refl (p y) refl e (last_that-passes p ys x)
  where
    by : (o : Option X) → last_that p ys ≡ o → (b : Bool) → p y ≡ b → option_or o (cond b (Some y) None) ≡ Some x → (last_that p ys ≡ Some x
        → p x ≡ true) → p x ≡ true
    by (Some z) is b f g rest = rest (is ∙ g)
    by None is true f g rest = let same : y ≡ x = cc in subst (λ z. p z ≡ true) same f
    by None is false f g rest = cc

pub shown-key : (main : ℕ) (k : List ℕ) (b : Body) (kv : KeyValue) → shown main k b ≡ Some kv → kv.key ≡ k
shown-key main k (Put create version lease value) kv e = let same : _ ≡ kv = some-same _ kv e in ap (λ (x : KeyValue). x.key) (sym same)
  where
    some-same : {X : Type 0} (x y : X) → Some x ≡ Some y → x ≡ y
    some-same x y f = cc
shown-key main k Gone kv e = cc

and-first : (a b : Bool) → (a && b) ≡ true → a ≡ true
and-first true b e = refl
and-first false b e = cc

-- what a key holds is shown under that key
pub value_at-key : (vs : List Version) (p : Rev) (k : List ℕ) (kv : KeyValue) → value_at vs p k ≡ Some kv → kv.key ≡ k
unfolding value_at
value_at-key vs p k kv e = by (latest vs p k) refl e
  where
    by : (o : Option Version) → latest vs p k ≡ o → option_and_then key_value o ≡ Some kv → kv.key ≡ k
    by None is f = cc
    by (Some v) is f = shown-key v.rev.main v.key v.body kv f ∙ same_key-eq v.key k (and-first _ _ (last_that-passes (λ u. same_key u.key k
        && rev_le u.rev p) vs v is))

within-key : (vs : List Version) (p : Rev) (r : KeyRange) (k : List ℕ) (kv : KeyValue) → value_within vs p r k ≡ Some kv → kv.key ≡ k
within-key vs p r k kv e = by (in_range r k) e
  where
    by : (b : Bool) → cond b (value_at vs p k) None ≡ Some kv → kv.key ≡ k
    by true f = value_at-key vs p k kv f
    by false f = cc

-- ---- the keys that are live

pub mapped-keys : (g : List ℕ → Option KeyValue) → ((k : List ℕ) (kv : KeyValue) → g k ≡ Some kv → kv.key ≡ k) → (ks : List (List ℕ))
    → keys_of (filter_map g ks) ≡ filter (λ k. is_some (g k)) ks
mapped-keys g h [] = refl
mapped-keys g h (k ∷ ks) = by (g k) refl (mapped-keys g h ks)
  where
    by : (o : Option KeyValue) → g k ≡ o → keys_of (filter_map g ks) ≡ filter (λ k. is_some (g k)) ks
        → keys_of (cons_option o (filter_map g ks)) ≡ cond (is_some o) (k ∷ filter (λ k. is_some (g k)) ks) (filter (λ k. is_some (g k)) ks)
    by None e rest = rest
    by (Some kv) e rest = λ i. h k kv e i ∷ rest i

pub live-keys : (vs : List Version) (p : Rev) (r : KeyRange) → keys_of (live vs p r)
    ≡ filter (λ k. is_some (value_within vs p r k)) (keys vs)
unfolding live
live-keys vs p r = mapped-keys (value_within vs p r) (within-key vs p r) (keys vs)

-- the live keys ascend
pub live-ascends : (vs : List Version) (p : Rev) (r : KeyRange) → IsAscending (keys_of (live vs p r))
live-ascends vs p r = subst IsAscending (sym (live-keys vs p r)) (ascending-filter (λ k. is_some (value_within vs p r k)) (keys vs)
    (ascending-keys vs))

abbrev pub AreGiven : List (List ℕ) → Type 0
AreGiven ks = AllByRecursion (λ k. k ≢ []) ks

given-insert : (k : List ℕ) (ls : List (List ℕ)) → k ≢ [] → AreGiven ls → AreGiven (insert_key k ls)
given-insert k [] h a = (h, tt)
given-insert k (l ∷ ls) h a = by (key_cmp k l) (given-insert k ls h a.1)
  where
    by : (o : Ordering) → AreGiven (insert_key k ls) → AreGiven (match_ordering o (k ∷ l ∷ ls) (l ∷ ls) (l ∷ insert_key k ls))
    by Less rest = (h, a)
    by Equal rest = a
    by Greater rest = (a.0, rest)

pub given-keys : (vs : List Version) → AllByRecursion (λ v. v.key ≢ []) vs → AreGiven (keys vs)
given-keys [] h = tt
given-keys (v ∷ vs) h = given-insert v.key (keys vs) h.0 (given-keys vs h.1)

-- and are not empty where no version's key is
pub live-given : (vs : List Version) (p : Rev) (r : KeyRange) → AllByRecursion (λ v. v.key ≢ []) vs → AreGiven (keys_of (live vs p r))
live-given vs p r h = subst AreGiven (sym (live-keys vs p r)) (each-filter (λ k. k ≢ []) (λ k. is_some (value_within vs p r k)) (keys vs)
    (given-keys vs h))

-- the same of some of the live keys
each-some : (P : List ℕ → Type 0) (t : KeyValue → Bool) (kvs : List KeyValue) → AllByRecursion P (keys_of kvs)
    → AllByRecursion P (keys_of (filter t kvs))
each-some P t [] h = tt
each-some P t (kv ∷ kvs) h = by (t kv) (each-some P t kvs h.1)
  where
    by : (b : Bool) → AllByRecursion P (keys_of (filter t kvs)) → AllByRecursion P (keys_of (cond b (kv ∷ filter t kvs) (filter t kvs)))
    by true rest = (h.0, rest)
    by false rest = rest

pub ascending-some : (t : KeyValue → Bool) (kvs : List KeyValue) → IsAscending (keys_of kvs) → IsAscending (keys_of (filter t kvs))
ascending-some t [] h = tt
ascending-some t (kv ∷ kvs) h = by (t kv) (ascending-some t kvs h.1)
  where
    by : (b : Bool) → IsAscending (keys_of (filter t kvs)) → IsAscending (keys_of (cond b (kv ∷ filter t kvs) (filter t kvs)))
    by true rest = (each-some (λ k. key_cmp kv.key k ≡ Less) t kvs h.0, rest)
    by false rest = rest

pub given-some : (t : KeyValue → Bool) (kvs : List KeyValue) → AreGiven (keys_of kvs) → AreGiven (keys_of (filter t kvs))
given-some = each-some (λ k. k ≢ [])

-- ---- their deletes

below-other : (k l : List ℕ) → key_cmp k l ≡ Less → k ≢ l
below-other k l h e = let bad : Less ≡ Equal = sym h ∙ ap (key_cmp k) (sym e) ∙ cmp-refl k in cc

abbrev pub delete_at : ℕ → ℕ → List ℕ → Mutation
delete_at main sub k = record { rev = record { main = main; sub = sub }; key = k; action = Action.delete }

deletes-before : (main sub n : ℕ) (k : List ℕ) (ks : List (List ℕ)) → sub < n → AllAbove k ks
    → AllByRecursion (IsBefore (delete_at main sub k)) (deletes_of main n ks)
deletes-before main sub n k [] l a = tt
deletes-before main sub n k (j ∷ ks) l a = (
  (rev_lt-subs (record { main = main; sub = sub }) (record { main = main; sub = n }) refl l, λ e. below-other k j a.0),
  deletes-before main sub (suc n) k ks (omega arith) a.1,
)

deletes-history : (main sub : ℕ) (ks : List (List ℕ)) → IsAscending ks → AreGiven ks → 1 < main → sub + length ks ≤ 2 ^ 64
    → IsHistory (deletes_of main sub ks)
deletes-history main sub [] a g o l = tt
deletes-history main sub (k ∷ ks) a g o l = (
  record { behind = o; number = omega arith; has_key = g.0 },
  deletes-before main sub (suc sub) k ks (omega arith) a.0,
  deletes-history main (suc sub) ks a.1 g.1 o (omega arith),
)

deletes-at : (main sub : ℕ) (ks : List (List ℕ)) → AllByRecursion (λ u. u.rev.main ≡ main) (deletes_of main sub ks)
deletes-at main sub [] = tt
deletes-at main sub (k ∷ ks) = (refl, deletes-at main (suc sub) ks)

-- deletes of ascending keys are the changes of one revision
pub deletes-batch : (main sub : ℕ) (ks : List (List ℕ)) → IsAscending ks → AreGiven ks → 1 < main → sub + length ks ≤ 2 ^ 64
    → IsBatch main (deletes_of main sub ks)
deletes-batch main sub ks a g o l = record { history = deletes-history main sub ks a g o l; at = deletes-at main sub ks }

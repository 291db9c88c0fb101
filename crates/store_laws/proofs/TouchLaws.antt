-- What changes leave of the keys that they do not touch.
use Rattle.std.proofs.Common.{◌≡◌, ℕ, suc, List, [], ◌∷◌, ◌++◌, Bool, true, false, not, ◌&&◌, ◌||◌, cond, Option, None, Some}
use Rattle.std.proofs.Common.{option_and_then, is_some, filter, refl, sym, ◌∙◌, ap, subst}
use Rattle.std.specs.Option.{option_or}
use Rattle.std.specs.List.{AllByRecursion}
use Rattle.std.proofs.lemmas.Bool.{not-true}
use Rattle.kv_model.specs.declared.version.Version.{Version}
use Rattle.kv_model.specs.declared.version.KeyRange.{KeyRange}
use Rattle.kv_model.specs.Lists.{last_that}
use Rattle.kv_model.specs.Keys.{same_key, in_range, one_key}
use Rattle.kv_model.specs.History.{Mutation, Action, KeyValue, is_put, puts_key, key_value, shown, value_now}
use Rattle.kv_model.specs.Ranges.{keys, keys_of, live_now, value_now_within}
use Rattle.kv_model.specs.Txns.{Touch, collides, next_body, next_version, extend, extend_all, deletes_of}
use Rattle.store_laws.specs.Plans.{is_deleted, still_live}
use Rattle.store_laws.proofs.HistoryLaws.{last_that-append, same_key-eq}
use Rattle.store_laws.proofs.KeyLaws.{has_key, IsAscending, same_keys, ascending-filter, ascending-keys, has_key-filter, now_within-some}
use Rattle.store_laws.proofs.KeyLaws.{value_now-has_key}
use Rattle.store_laws.proofs.SmallLaws.{same_key-comm}
use Rattle.store_laws.proofs.PlaceLaws.{each-map, each-filter}
use Rattle.store_laws.proofs.DeleteLaws.{mapped-keys, last_that-passes, shown-key}

-- ---- what a change touches

abbrev pub touch_of : Mutation → Touch
touch_of m = cond (is_put m.action) (Touch.one m.key) (Touch.each (one_key m.key))

-- the operation collides with none of these
abbrev pub IsClear : Touch → List Touch → Type 0
IsClear t us = AllByRecursion (λ u. collides t u ≡ false) us

-- nor does any of the changes
abbrev pub AreClear : List Mutation → List Touch → Type 0
AreClear ms us = AllByRecursion (λ m. IsClear (touch_of m) us) ms

-- a change that a put of a key is clear of is of another key
pub clear-one : (m : Mutation) (k : List ℕ) → collides (touch_of m) (Touch.one k) ≡ false → same_key m.key k ≡ false
clear-one m k h = by (is_put m.action) h
  where
    by : (b : Bool) → collides (cond b (Touch.one m.key) (Touch.each (one_key m.key))) (Touch.one k) ≡ false → same_key m.key k ≡ false
    by true e = e
    by false e = same_key-comm m.key k ∙ e

-- a change that a delete is clear of puts no key of the range
pub clear-each : (m : Mutation) (r : KeyRange) (k : List ℕ) → collides (touch_of m) (Touch.each r) ≡ false → in_range r k ≡ true
    → puts_key k m ≡ false
clear-each m r k h i = by (is_put m.action) h (same_key m.key k) refl
  where
    by : (b : Bool) → collides (cond b (Touch.one m.key) (Touch.each (one_key m.key))) (Touch.each r) ≡ false → (s : Bool)
        → same_key m.key k ≡ s → (s && b) ≡ false
    by true e true f = let bad : true ≡ false = sym i ∙ ap (in_range r) (sym (same_key-eq m.key k f)) ∙ e in cc
    by true e false f = refl
    by false e true f = refl
    by false e false f = refl

-- ---- what changes leave

pub value_now-push : (vs : List Version) (v : Version) (k : List ℕ) → value_now (vs ++ v ∷ []) k
    ≡ cond (same_key v.key k) (key_value v) (value_now vs k)
unfolding value_now
value_now-push vs v k = ap (option_and_then key_value) (last_that-append (λ u. same_key u.key k) vs (v ∷ [])) ∙ by (same_key v.key k)
  where
    by : (b : Bool) → option_and_then key_value (option_or (cond b (Some v) None) (last_that (λ u. same_key u.key k) vs))
        ≡ cond b (key_value v) (option_and_then key_value (last_that (λ u. same_key u.key k) vs))
    by true = refl
    by false = refl

gone-shown : (main : ℕ) (k : List ℕ) (a : Action) (held : Option KeyValue) → is_put a ≡ false → shown main k (next_body main a held) ≡ None
gone-shown main k (Action.put value lease) held e = cc
gone-shown main k Action.delete held e = refl

-- a key that the changes do not put holds nothing where they delete it, and else what it held
pub value-after : (vs : List Version) (us : List Mutation) (k : List ℕ) → AllByRecursion (λ u. puts_key k u ≡ false) us
    → value_now (extend_all vs us) k ≡ cond (is_deleted us k) None (value_now vs k)
value-after vs [] k h = refl
value-after vs (u ∷ us) k h = value-after (extend vs u) us k h.1
    ∙ ap (λ o. cond (is_deleted us k) None o) (value_now-push vs (next_version vs u) k)
    ∙ by (is_put u.action) refl (same_key u.key k) (is_deleted us k) h.0
  where
    gone : is_put u.action ≡ false → key_value (next_version vs u) ≡ None
    gone e = gone-shown u.rev.main u.key u.action (value_now vs u.key) e

    by : (a : Bool) → is_put u.action ≡ a → (s d : Bool) → (s && a) ≡ false
        → cond d None (cond s (key_value (next_version vs u)) (value_now vs k)) ≡ cond (cond a false s || d) None (value_now vs k)
    by true e true d f = cc
    by true e false d f = refl
    by false e true true f = refl
    by false e true false f = gone e
    by false e false d f = refl

and-none : (b : Bool) → (false && b) ≡ false
and-none true = refl
and-none false = refl

not-deleted : (us : List Mutation) (k : List ℕ) → AllByRecursion (λ u. same_key u.key k ≡ false) us → is_deleted us k ≡ false
not-deleted [] k h = refl
not-deleted (u ∷ us) k h = (λ i. cond (is_put u.action) false (h.0 i) || is_deleted us k) ∙ by (is_put u.action) ∙ not-deleted us k h.1
  where
    by : (b : Bool) → (cond b false false || is_deleted us k) ≡ is_deleted us k
    by true = refl
    by false = refl

-- a key of none of the changes holds what it held
pub value-untouched : (vs : List Version) (us : List Mutation) (k : List ℕ) → AllByRecursion (λ u. same_key u.key k ≡ false) us
    → value_now (extend_all vs us) k ≡ value_now vs k
value-untouched vs us k h =
    value-after vs us k (each-map (λ u. same_key u.key k ≡ false) (λ u. puts_key k u ≡ false) (λ u e. ap (λ b. b && is_put u.action) e
    ∙ and-none (is_put u.action)) us h)
    ∙ ap (λ b. cond b None (value_now vs k)) (not-deleted us k h)

-- ---- the keys that are still live

pub value_now-key : (vs : List Version) (k : List ℕ) (kv : KeyValue) → value_now vs k ≡ Some kv → kv.key ≡ k
unfolding value_now
value_now-key vs k kv e = by (last_that (λ v. same_key v.key k) vs) refl e
  where
    by : (o : Option Version) → last_that (λ v. same_key v.key k) vs ≡ o → option_and_then key_value o ≡ Some kv → kv.key ≡ k
    by None is f = cc
    by (Some v) is f = shown-key v.rev.main v.key v.body kv f ∙ same_key-eq v.key k (last_that-passes (λ u. same_key u.key k) vs v is)

now_within-key : (vs : List Version) (r : KeyRange) (k : List ℕ) (kv : KeyValue) → value_now_within vs r k ≡ Some kv → kv.key ≡ k
now_within-key vs r k kv e = by (in_range r k) e
  where
    by : (b : Bool) → cond b (value_now vs k) None ≡ Some kv → kv.key ≡ k
    by true f = value_now-key vs k kv f
    by false f = cc

pub live_now-keys : (vs : List Version) (r : KeyRange) → keys_of (live_now vs r) ≡ filter (λ k. is_some (value_now_within vs r k)) (keys vs)
unfolding live_now
live_now-keys vs r = mapped-keys (value_now_within vs r) (now_within-key vs r) (keys vs)

pub live_now-ascends : (vs : List Version) (r : KeyRange) → IsAscending (keys_of (live_now vs r))
live_now-ascends vs r = subst IsAscending (sym (live_now-keys vs r)) (ascending-filter (λ k. is_some (value_now_within vs r k)) (keys vs)
    (ascending-keys vs))

-- behind changes that put no key of the range, those are live that were and are not deleted
pub live-after : (vs : List Version) (us : List Mutation) (r : KeyRange) → ((k : List ℕ) → in_range r k ≡ true
    → value_now (extend_all vs us) k ≡ cond (is_deleted us k) None (value_now vs k))
    → keys_of (live_now (extend_all vs us) r) ≡ still_live vs us r
live-after vs us r h = same_keys _ _ (live_now-ascends (extend_all vs us) r) (ascending-filter (λ k. not (is_deleted us k))
    (keys_of (live_now vs r)) (live_now-ascends vs r)) each
  where
    in_keys : (xs : List Version) (q : List ℕ) → has_key q (keys_of (live_now xs r)) ≡ (is_some (value_now_within xs r q)
        && has_key q (keys xs))
    in_keys xs q = ap (has_key q) (live_now-keys xs r) ∙ has_key-filter (λ k. is_some (value_now_within xs r k)) q (keys xs)

    and-key : (xs : List Version) (q : List ℕ) (b : Bool) → is_some (value_now_within xs r q) ≡ b → (b && has_key q (keys xs)) ≡ b
    and-key xs q true e = value_now-has_key q xs (now_within-some xs r q e)
    and-key xs q false e = refl

    shown-is : (xs : List Version) (q : List ℕ) → has_key q (keys_of (live_now xs r)) ≡ is_some (value_now_within xs r q)
    shown-is xs q = in_keys xs q ∙ and-key xs q (is_some (value_now_within xs r q)) refl

    by : (q : List ℕ) (b : Bool) → in_range r q ≡ b → is_some (cond b (value_now (extend_all vs us) q) None) ≡ (not (is_deleted us q)
        && is_some (cond b (value_now vs q) None))
    by q true e = ap is_some (h q e) ∙ at (is_deleted us q)
      where
        at : (d : Bool) → is_some (cond d None (value_now vs q)) ≡ (not d && is_some (value_now vs q))
        at true = refl
        at false = refl
    by q false e = at (is_deleted us q)
      where
        at : (d : Bool) → false ≡ (not d && false)
        at true = refl
        at false = refl

    each : (q : List ℕ) → has_key q (keys_of (live_now (extend_all vs us) r)) ≡ has_key q (still_live vs us r)
    each q = shown-is (extend_all vs us) q ∙ by q (in_range r q) refl ∙ ap (λ b. not (is_deleted us q) && b) (sym (shown-is vs q))
        ∙ sym (has_key-filter (λ k. not (is_deleted us k)) q (keys_of (live_now vs r)))

all-pass : {X : Type 0} (p : X → Bool) (xs : List X) → AllByRecursion (λ x. p x ≡ true) (filter p xs)
all-pass p [] = tt
all-pass p (x ∷ xs) = by (p x) refl (all-pass p xs)
  where
    by : (b : Bool) → p x ≡ b → AllByRecursion (λ x. p x ≡ true) (filter p xs) → AllByRecursion (λ x. p x
        ≡ true) (cond b (x ∷ filter p xs) (filter p xs))
    by true e rest = (e, rest)
    by false e rest = rest

shown-in_range : (vs : List Version) (r : KeyRange) (k : List ℕ) → is_some (value_now_within vs r k) ≡ true → in_range r k ≡ true
shown-in_range vs r k h = by (in_range r k) refl h
  where
    by : (b : Bool) → in_range r k ≡ b → is_some (cond b (value_now vs k) None) ≡ true → b ≡ true
    by true e f = refl
    by false e f = cc

-- the live keys of a range lie in it
pub live_now-in : (vs : List Version) (r : KeyRange) → AllByRecursion (λ k. in_range r k ≡ true) (keys_of (live_now vs r))
live_now-in vs r = subst (AllByRecursion (λ k. in_range r k ≡ true)) (sym (live_now-keys vs r))
    (each-map (λ k. is_some (value_now_within vs r k) ≡ true) (λ k. in_range r k
    ≡ true) (shown-in_range vs r) (filter (λ k. is_some (value_now_within vs r k)) (keys vs))
    (all-pass (λ k. is_some (value_now_within vs r k)) (keys vs)))

pub still_live-in : (vs : List Version) (us : List Mutation) (r : KeyRange) → AllByRecursion (λ k. in_range r k ≡ true) (still_live vs us r)
still_live-in vs us r = each-filter (λ k. in_range r k ≡ true) (λ k. not (is_deleted us k)) (keys_of (live_now vs r)) (live_now-in vs r)

pub still_live-not : (vs : List Version) (us : List Mutation) (r : KeyRange) → AllByRecursion (λ k. is_deleted us k
    ≡ false) (still_live vs us r)
still_live-not vs us r = each-map (λ k. not (is_deleted us k) ≡ true) (λ k. is_deleted us k ≡ false) (λ k e. not-true (is_deleted us k) e)
    (still_live vs us r) (all-pass (λ k. not (is_deleted us k)) (keys_of (live_now vs r)))

pub still_live-ascends : (vs : List Version) (us : List Mutation) (r : KeyRange) → IsAscending (still_live vs us r)
still_live-ascends vs us r = ascending-filter (λ k. not (is_deleted us k)) (keys_of (live_now vs r)) (live_now-ascends vs r)

-- ---- the deletes of keys of a range touch no more than its delete does

one-clear : (r : KeyRange) (k : List ℕ) (t : Touch) → in_range r k ≡ true → collides (Touch.each r) t ≡ false
    → collides (Touch.each (one_key k)) t ≡ false
one-clear r k (Touch.one l) i h = by (same_key l k) refl
  where
    by : (b : Bool) → same_key l k ≡ b → b ≡ false
    by true e = let bad : true ≡ false = sym i ∙ ap (in_range r) (sym (same_key-eq l k e)) ∙ h in cc
    by false e = refl
one-clear r k (Touch.each s) i h = refl

pub deletes-clear : (main sub : ℕ) (r : KeyRange) (ks : List (List ℕ)) (us : List Touch) → AllByRecursion (λ k. in_range r k ≡ true) ks
    → IsClear (Touch.each r) us → AreClear (deletes_of main sub ks) us
deletes-clear main sub r [] us i h = tt
deletes-clear main sub r (k ∷ ks) us i h = (
  each-map (λ u. collides (Touch.each r) u ≡ false) (λ u. collides (Touch.each (one_key k)) u
      ≡ false) (λ u e. one-clear r k u i.0 e) us h,
  deletes-clear main (suc sub) r ks us i.1 h,
)

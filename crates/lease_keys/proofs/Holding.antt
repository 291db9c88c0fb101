-- What an index holds as versions come, as they are taken back, and once they stand.
use Rattle.std.proofs.Common.{◌≡◌, ◌⊎◌, inl, inr, ℕ, ℤ, List, [], ◌∷◌, Bool, true, false, ◌||◌, ◌&&◌, not, cond}
use Rattle.std.proofs.Common.{Option, None, Some, is_none, option_map, refl, sym, ◌∙◌, ap}
use Rattle.std.specs.Ordering.{int_eq}
use Rattle.std.specs.BTreeSet.{insert_key}
use Rattle.std.proofs.lemmas.Bool.Decides.{Decides-int_eq}
use Rattle.std.proofs.Math.Bool.{and-false, and-true, or-false, or-true}
use Rattle.kv_model.specs.declared.version.Version.{Version}
use Rattle.kv_model.specs.Lists.{is_empty}
use Rattle.kv_model.specs.Keys.{key_cmp, same_key}
use Rattle.kv_model.specs.History.{KeyValue}
use Rattle.store_laws.proofs.HistoryLaws.{same_key-eq}
use Rattle.store_laws.proofs.KeyLaws.{has_key, has_key-filter}
use Rattle.lease_keys.specs.Pairs.{Pairs, keys_at, has_pair, without_key, AreAdded, AreRemoved}
use Rattle.lease_keys.specs.Holding.{is_of, lease_of, lease_held, puts_pair, touches, under}
use Rattle.lease_keys.specs.Holding.{ArePut, ArePartlyPut, AreSettled, AreTakenBack, IsUnusedDropped}
use Rattle.lease_keys.proofs.Sets.{inserted-has}

pub same-lease : (l m : ℤ) → int_eq l m ≡ true → l ≡ m
same-lease l m e = (Decides-int_eq l m).0 e

pub lease-itself : (l : ℤ) → int_eq l l ≡ true
lease-itself l = (Decides-int_eq l l).1 refl

-- ---- pairs come

pub put-one : (v : Version) (m : ℤ) (old new : Pairs) → lease_of v.body ≡ Some m → AreAdded m v.key old new → ArePut (v ∷ []) old new
put-one v m old new e added l k =
    ap (has_key k) (added l) ∙ by (int_eq m l) refl ∙ sym (ap (λ o. ((is_of l o && same_key v.key k) || false) || has_pair l k old) e)
  where
    by : (b : Bool) → int_eq m l ≡ b → has_key k (cond b (insert_key key_cmp (keys_at m old) v.key) (keys_at l old))
        ≡ (((b && same_key v.key k) || false) || has_pair l k old)
    by true f = inserted-has k v.key (keys_at m old) ∙ λ i. sym (or-false (same_key v.key k)) i || has_pair (same-lease m l f i) k old
    by false f = refl

-- the versions that are left are added to what was, as they all are to what was first
abbrev pub AddsOn : List Version → List Version → Pairs → Pairs → Type 0
AddsOn rest all start ps = (l : ℤ) (k : List ℕ) → (puts_pair l k rest || has_pair l k ps) ≡ (puts_pair l k all || has_pair l k start)

module _ (v : Version) (rest all : List Version) (start mid new : Pairs) (on : AddsOn (v ∷ rest) all start mid) (put : ArePut (v ∷ []) mid new) where
  pub put-on : AddsOn rest all start new
  put-on l k = ap (λ b. puts_pair l k rest || b) (put l k)
      ∙ swap (is_of l (lease_of v.body) && same_key v.key k) (puts_pair l k rest) ∙ on l k
    where
      swap : (p r : Bool) → (r || ((p || false) || has_pair l k mid)) ≡ ((p || r) || has_pair l k mid)
      swap true r = or-true r
      swap false r = refl

  pub partly-on : ArePartlyPut all start mid → ArePartlyPut all start new
  partly-on part l k = by (is_of l (lease_of v.body) && same_key v.key k) refl (put l k) (on l k)
    where
      seen : (b : Bool) → puts_pair l k all ≡ b → true ≡ (b || has_pair l k start) → has_pair l k new ≡ true
          → (has_pair l k new ≡ has_pair l k start) ⊎ ((puts_pair l k all ≡ true) × (has_pair l k new ≡ true))
      seen true e f here = inr (e, here)
      seen false e f here = inl (here ∙ f)

      by : (p : Bool) → (is_of l (lease_of v.body) && same_key v.key k) ≡ p → has_pair l k new ≡ ((p || false) || has_pair l k mid)
          → ((p || puts_pair l k rest) || has_pair l k mid) ≡ (puts_pair l k all || has_pair l k start)
          → (has_pair l k new ≡ has_pair l k start) ⊎ ((puts_pair l k all ≡ true) × (has_pair l k new ≡ true))
      by true e here whole = seen (puts_pair l k all) refl whole here
      by false e same whole = elim (part l k) [ inl f ↦ inl (same ∙ f) | inr f ↦ inr (f.0, same ∙ f.1) ]

-- all of them are some
pub put-partly : (vs : List Version) (old new : Pairs) → ArePut vs old new → ArePartlyPut vs old new
put-partly vs old new put l k = by (puts_pair l k vs) refl (put l k)
  where
    by : (b : Bool) → puts_pair l k vs ≡ b → has_pair l k new ≡ (b || has_pair l k old)
        → (has_pair l k new ≡ has_pair l k old) ⊎ ((puts_pair l k vs ≡ true) × (has_pair l k new ≡ true))
    by true e f = inr (e, f)
    by false e f = inl f

pub partly-none : (vs : List Version) (ps : Pairs) → ArePartlyPut vs ps ps
partly-none vs ps l k = inl refl

-- ---- a pair that is not used goes

pub mapped-none : {X Y : Type 0} (f : X → Y) (o : Option X) → is_none (option_map f o) ≡ is_none o
mapped-none f None = refl
mapped-none f (Some x) = refl

module _ (key : List ℕ) (held : List ℕ → Option KeyValue) (old : Pairs) where
  pub unused-none : (o : Option ℤ) → o ≡ None → IsUnusedDropped o key held old old
  unused-none o e l k = sym (ap (λ p. has_pair l k old && not ((is_of l p && same_key key k) && is_none (under l (held k)))) e
      ∙ and-true (has_pair l k old))

  pub unused-kept : (o : Option ℤ) (m : ℤ) → o ≡ Some m → is_none (under m (held key)) ≡ false → IsUnusedDropped o key held old old
  unused-kept o m e n l k = sym (ap (λ p. has_pair l k old && not ((is_of l p && same_key key k) && is_none (under l (held k)))) e
      ∙ ap (λ b. has_pair l k old && not b) (by (int_eq m l) refl (same_key key k) refl) ∙ and-true (has_pair l k old))
    where
      by : (b : Bool) → int_eq m l ≡ b → (s : Bool) → same_key key k ≡ s → ((b && s) && is_none (under l (held k))) ≡ false
      by true f true g = sym (λ i. is_none (under (same-lease m l f i) (held (same_key-eq key k g i)))) ∙ n
      by true f false g = refl
      by false f s g = refl

  pub unused-removed : (o : Option ℤ) (m : ℤ) (new : Pairs) → o ≡ Some m → is_none (under m (held key)) ≡ true
      → AreRemoved m key old new → IsUnusedDropped o key held old new
  unused-removed o m new e n removed l k = ap (has_key k) (removed l) ∙ by (int_eq m l) refl
      ∙ sym (ap (λ p. has_pair l k old && not ((is_of l p && same_key key k) && is_none (under l (held k)))) e)
    where
      of : int_eq m l ≡ true → (s : Bool) → same_key key k ≡ s
          → (not s && has_pair m k old) ≡ (has_pair l k old && not (s && is_none (under l (held k))))
      of f true g = sym (ap (λ b. has_pair l k old && not b)
          (sym (λ i. is_none (under (same-lease m l f i) (held (same_key-eq key k g i)))) ∙ n) ∙ and-false (has_pair l k old))
      of f false g = ap (λ q. has_pair q k old) (same-lease m l f) ∙ sym (and-true (has_pair l k old))

      by : (b : Bool) → int_eq m l ≡ b → has_key k (cond b (without_key key (keys_at m old)) (keys_at l old))
          ≡ (has_pair l k old && not ((b && same_key key k) && is_none (under l (held k))))
      by true f = has_key-filter (λ j. not (same_key key j)) k (keys_at m old) ∙ of f (same_key key k) refl
      by false f = sym (and-true (has_pair l k old))

-- ---- versions are taken back, and settled

drops : (h p r n : Bool) → ((h && not (p && n)) && not (r && n)) ≡ (h && not ((p || r) && n))
drops false p r n = refl
drops true true r true = refl
drops true true r false = ap not (and-false r)
drops true false r n = refl

-- what is left to take back of what is, as all of what was
abbrev pub TakesOn : List Version → List Version → (List ℕ → Option KeyValue) → Pairs → Pairs → Type 0
TakesOn rest all held start ps = (l : ℤ) (k : List ℕ) → (has_pair l k ps && not (puts_pair l k rest && is_none (under l (held k))))
    ≡ (has_pair l k start && not (puts_pair l k all && is_none (under l (held k))))

pub taken-on : (v : Version) (rest all : List Version) (held : List ℕ → Option KeyValue) (start mid new : Pairs)
    → TakesOn (v ∷ rest) all held start mid → IsUnusedDropped (lease_of v.body) v.key held mid new → TakesOn rest all held start new
taken-on v rest all held start mid new on dropped l k =
    let n : Bool = is_none (under l (held k)) in
    ap (λ b. b && not (puts_pair l k rest && n)) (dropped l k)
    ∙ drops (has_pair l k mid) (is_of l (lease_of v.body) && same_key v.key k) (puts_pair l k rest) n ∙ on l k

pub taken-all : (all : List Version) (held : List ℕ → Option KeyValue) (start ps : Pairs) → TakesOn [] all held start ps
    → AreTakenBack all held start ps
taken-all all held start ps on l k = sym (and-true (has_pair l k ps)) ∙ on l k

-- the same of what is settled
abbrev pub SettlesOn : List Version → List Version → (List ℕ → Option KeyValue) → (List ℕ → Option KeyValue) → Pairs → Pairs → Type 0
SettlesOn rest all before now start ps = (l : ℤ) (k : List ℕ)
    → (has_pair l k ps && not (touches l k before rest && is_none (under l (now k))))
    ≡ (has_pair l k start && not (touches l k before all && is_none (under l (now k))))

pub settled-on : (v : Version) (rest all : List Version) (before now : List ℕ → Option KeyValue) (start mid new : Pairs)
    → SettlesOn (v ∷ rest) all before now start mid → AreSettled (v ∷ []) before now mid new → SettlesOn rest all before now start new
settled-on v rest all before now start mid new on settled l k =
    let n : Bool = is_none (under l (now k)) in
    let t : Bool = same_key v.key k && (is_of l (lease_of v.body) || is_of l (lease_held (before k))) in
    ap (λ b. b && not (touches l k before rest && n)) (settled l k ∙ ap (λ b. has_pair l k mid && not (b && n)) (or-false t))
    ∙ drops (has_pair l k mid) t (touches l k before rest) n ∙ on l k

pub settled-all : (all : List Version) (before now : List ℕ → Option KeyValue) (start ps : Pairs) → SettlesOn [] all before now start ps
    → AreSettled all before now start ps
settled-all all before now start ps on l k = sym (and-true (has_pair l k ps)) ∙ on l k

pub settled-none : (vs : List Version) (before now : List ℕ → Option KeyValue) (ps : Pairs) → is_empty ps ≡ true → AreSettled vs before now ps ps
settled-none vs before now [] e l k = refl
settled-none vs before now (p ∷ ps) e l k = cc

-- the pair of a version, and that of what its key held before
pub settled-one : (v : Version) (before now : List ℕ → Option KeyValue) (old mid new : Pairs)
    → IsUnusedDropped (lease_of v.body) v.key now old mid → IsUnusedDropped (lease_held (before v.key)) v.key now mid new
    → AreSettled (v ∷ []) before now old new
settled-one v before now old mid new first second l k =
    second l k ∙ ap (λ b. b && not ((is_of l (lease_held (before v.key)) && same_key v.key k) && is_none (under l (now k)))) (first l k)
    ∙ by (same_key v.key k) refl
  where
    both : (h a b n : Bool) → ((h && not ((a && true) && n)) && not ((b && true) && n)) ≡ (h && not (((a || b) || false) && n))
    both false a b n = refl
    both true true b true = refl
    both true true true false = refl
    both true true false false = refl
    both true false true n = refl
    both true false false n = refl

    other : (h a b n : Bool) → ((h && not ((a && false) && n)) && not ((b && false) && n)) ≡ (h && true)
    other h true true n = and-true (h && true)
    other h true false n = and-true (h && true)
    other h false true n = and-true (h && true)
    other h false false n = and-true (h && true)

    by : (s : Bool) → same_key v.key k ≡ s
        → ((has_pair l k old && not ((is_of l (lease_of v.body) && s) && is_none (under l (now k))))
        && not ((is_of l (lease_held (before v.key)) && s) && is_none (under l (now k))))
        ≡ (has_pair l k old && not (((s && (is_of l (lease_of v.body) || is_of l (lease_held (before k)))) || false) && is_none (under l (now k))))
    by true e = both (has_pair l k old) (is_of l (lease_of v.body)) (is_of l (lease_held (before v.key))) (is_none (under l (now k)))
        ∙ ap (λ j. has_pair l k old && not (((is_of l (lease_of v.body) || is_of l (lease_held (before j))) || false) && is_none (under l (now k))))
        (same_key-eq v.key k e)
    by false e = other (has_pair l k old) (is_of l (lease_of v.body)) (is_of l (lease_held (before v.key))) (is_none (under l (now k)))

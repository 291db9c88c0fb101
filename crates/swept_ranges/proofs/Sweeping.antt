-- A walk past what is covered leaves out nothing else.
use Rattle.std.proofs.Common.{◌≡◌, ℕ, zero, suc, List, [], ◌∷◌, ◌++◌, take, drop, filter_map, Bool, true, false, ◌&&◌, ◌||◌, cond}
use Rattle.std.proofs.Common.{Option, None, Some, refl, sym, ◌∙◌, ap, append_assoc, Bor}
use Rattle.std.specs.List.{AllByRecursion, cons_option, list_any}
use Rattle.std.specs.declared.cmp.Ordering.{Ordering}
use Rattle.std.specs.declared.cmp.Ordering.TheVariants.{Less, Equal, Greater}
use Rattle.std.specs.Ordering.{ordering_reverse, is_lt, is_le}
use Rattle.std.specs.Cmp.Lexicographic.{nat_list_cmp_total}
use Rattle.std.proofs.Math.Bool.{and-false, and-true}
use Rattle.std.proofs.lemmas.List.{append-nil}
use Rattle.std.proofs.lemmas.List.Elements.{filter-append}
use Rattle.std.proofs.lemmas.Map.Lookups.{exact_bytes}
use Rattle.kv_model.specs.declared.version.Rev.{Rev}
use Rattle.kv_model.specs.declared.version.Version.{Version}
use Rattle.kv_model.specs.declared.version.KeyRange.{KeyRange}
use Rattle.kv_model.specs.Keys.{key_cmp, key_lt, key_le, in_range}
use Rattle.kv_model.specs.History.{KeyValue, value_at}
use Rattle.kv_model.specs.Ranges.{keys, keys_of, live, value_within}
use Rattle.store_laws.proofs.BatchLaws.{filter-none}
use Rattle.store_laws.proofs.DeleteLaws.{value_at-key}
use Rattle.store_laws.proofs.KeyLaws.{IsAscending, AllAbove}
use Rattle.store_laws.proofs.PlaceLaws.{each-map}
use Rattle.swept_ranges.specs.declared.stretch.Stretch.{Stretch}
use Rattle.swept_ranges.specs.Swept.{of_keys, AreBut}
use Rattle.swept_ranges.specs.Walks.{has, is_below, covered_up_to, IsAhead, AreButFrom}

-- ---- the order of keys

back : (a b : List ℕ) (o : Ordering) → key_cmp a b ≡ o → key_cmp b a ≡ ordering_reverse o
back a b o e = nat_list_cmp_total.antisymm b a ∙ ap ordering_reverse e

le-lt : (a b c : List ℕ) → key_le a b ≡ true → key_cmp b c ≡ Less → key_cmp a c ≡ Less
le-lt a b c h g = by (key_cmp a b) refl h
  where
    by : (o : Ordering) → key_cmp a b ≡ o → is_le o ≡ true → key_cmp a c ≡ Less
    by Less e f = nat_list_cmp_total.trans a b c e g
    by Equal e f = ap (λ k. key_cmp k c) (exact_bytes a b e) ∙ g
    by Greater e f = cc

pub le-trans : (a b c : List ℕ) → key_le a b ≡ true → key_le b c ≡ true → key_le a c ≡ true
le-trans a b c h g = by (key_cmp b c) refl g
  where
    by : (o : Ordering) → key_cmp b c ≡ o → is_le o ≡ true → key_le a c ≡ true
    by Less e f = ap is_le (le-lt a b c h e)
    by Equal e f = ap (key_le a) (sym (exact_bytes b c e)) ∙ h
    by Greater e f = cc

not-lt : (a b : List ℕ) → key_lt a b ≡ false → key_le b a ≡ true
not-lt a b h = by (key_cmp a b) refl h
  where
    by : (o : Ordering) → key_cmp a b ≡ o → is_lt o ≡ false → key_le b a ≡ true
    by Less e f = cc
    by Equal e f = ap is_le (back a b Equal e)
    by Greater e f = ap is_le (back a b Greater e)

lt-not : (a b : List ℕ) → key_lt a b ≡ true → key_le b a ≡ false
lt-not a b h = by (key_cmp a b) refl h
  where
    by : (o : Ordering) → key_cmp a b ≡ o → is_lt o ≡ true → key_le b a ≡ false
    by Less e f = ap is_le (back a b Less e)
    by Equal e f = cc
    by Greater e f = cc

less-lt : (a b : List ℕ) → key_le a b ≡ false → key_lt b a ≡ true
less-lt a b h = by (key_cmp a b) refl h
  where
    by : (o : Ordering) → key_cmp a b ≡ o → is_le o ≡ false → key_lt b a ≡ true
    by Less e f = cc
    by Equal e f = cc
    by Greater e f = ap is_lt (back a b Greater e)

lt-le : (a b : List ℕ) → key_lt a b ≡ true → key_le a b ≡ true
lt-le a b h = by (key_cmp a b) h
  where
    by : (o : Ordering) → is_lt o ≡ true → is_le o ≡ true
    by Less f = refl
    by Equal f = cc
    by Greater f = cc

and-first : (a b : Bool) → (a && b) ≡ true → a ≡ true
and-first true b h = refl
and-first false b h = cc

and-last : (a b : Bool) → (a && b) ≡ true → b ≡ true
and-last true b h = h
and-last false b h = cc

-- ---- key-values whose keys pass a test

both : (f g : List ℕ → Bool) (xs : List KeyValue) → of_keys f (of_keys g xs) ≡ of_keys (λ k. g k && f k) xs
both f g [] = refl
both f g (x ∷ xs) = by (g x.key) (both f g xs)
  where
    by : (b : Bool) → of_keys f (of_keys g xs) ≡ of_keys (λ k. g k && f k) xs
        → of_keys f (cond b (x ∷ of_keys g xs) (of_keys g xs))
        ≡ cond (b && f x.key) (x ∷ of_keys (λ k. g k && f k) xs) (of_keys (λ k. g k && f k) xs)
    by true e = λ i. cond (f x.key) (x ∷ e i) (e i)
    by false e = e

alike : (f g : List ℕ → Bool) (xs : List KeyValue) → AllByRecursion (λ kv. f kv.key ≡ g kv.key) xs → of_keys f xs ≡ of_keys g xs
alike f g [] h = refl
alike f g (x ∷ xs) h = λ i. cond (h.0 i) (x ∷ alike f g xs h.1 i) (alike f g xs h.1 i)

-- ---- past what is covered

pub past-until : (c : List ℕ → Bool) (from to : List ℕ) (xs ys : List KeyValue) → key_le from to ≡ true
    → ((k : List ℕ) → key_le from k ≡ true → key_lt k to ≡ true → c k ≡ true) → AreButFrom c from xs ys → AreButFrom c to xs ys
past-until c from to xs ys l h so_far = λ f none.
    ap (λ zs. of_keys f xs ++ zs) (both f (key_le to) ys ∙ alike _ _ ys (each-map _ _ (each f) ys none) ∙ sym (both f (key_le from) ys))
    ∙ so_far f none
  where
    each : (f : List ℕ → Bool) (kv : KeyValue) → (c kv.key ≡ true → f kv.key ≡ false) → (key_le to kv.key && f kv.key) ≡ (key_le from kv.key && f kv.key)
    each f kv e = by (key_le to kv.key) refl (key_le from kv.key) refl
      where
        by : (b : Bool) → key_le to kv.key ≡ b → (d : Bool) → key_le from kv.key ≡ d → (b && f kv.key) ≡ (d && f kv.key)
        by true g true i = refl
        by true g false i = let bad : true ≡ false = sym (le-trans from to kv.key l g) ∙ i in cc
        by false g true i = sym (e (h kv.key i (less-lt to kv.key g)))
        by false g false i = refl

pub past-all : (c : List ℕ → Bool) (from : List ℕ) (xs ys : List KeyValue) → ((k : List ℕ) → key_le from k ≡ true → c k ≡ true)
    → AreButFrom c from xs ys → AreBut c xs ys
past-all c from xs ys h so_far = λ f none.
    sym (append-nil (of_keys f xs))
    ∙ ap (λ zs. of_keys f xs ++ zs) (sym (both f (key_le from) ys ∙ filter-none _ ys (each-map _ _ (each f) ys none)))
    ∙ so_far f none
  where
    each : (f : List ℕ → Bool) (kv : KeyValue) → (c kv.key ≡ true → f kv.key ≡ false) → (key_le from kv.key && f kv.key) ≡ false
    each f kv e = by (key_le from kv.key) refl
      where
        by : (d : Bool) → key_le from kv.key ≡ d → (d && f kv.key) ≡ false
        by true i = e (h kv.key i)
        by false i = refl

-- ---- through a gap

-- keys that lie above one from an end on lie from it on
above-not : (from to k : List ℕ) (xs : List KeyValue) → key_le to k ≡ true → AllAbove k (keys_of xs)
    → AllByRecursion (λ kv. (key_le from kv.key && key_lt kv.key to) ≡ false) xs
above-not from to k [] l h = tt
above-not from to k (x ∷ xs) l h = (by (key_le from x.key) (key_lt x.key to) refl, above-not from to k xs l h.1)
  where
    by : (a b : Bool) → key_lt x.key to ≡ b → (a && b) ≡ false
    by true true e = let bad : true ≡ false = sym (ap is_le (le-lt to k x.key l h.0)) ∙ lt-not x.key to e in cc
    by true false e = refl
    by false b e = refl

above-both : (from to k : List ℕ) (xs : List KeyValue) → key_le from k ≡ true → key_le to k ≡ true → AllAbove k (keys_of xs)
    → AllByRecursion (λ kv. key_le to kv.key ≡ key_le from kv.key) xs
above-both from to k [] l m h = tt
above-both from to k (x ∷ xs) l m h =
    (ap is_le (le-lt to k x.key m h.0) ∙ sym (ap is_le (le-lt from k x.key l h.0)), above-both from to k xs l m h.1)

cut : (from to : List ℕ) → key_le from to ≡ true → (xs : List KeyValue) → IsAscending (keys_of xs)
    → of_keys (λ k. key_le from k && key_lt k to) xs ++ of_keys (key_le to) xs ≡ of_keys (key_le from) xs
cut from to l [] a = refl
cut from to l (x ∷ xs) a = by (key_le from x.key) refl (key_lt x.key to) refl (key_le to x.key) refl (cut from to l xs a.1)
  where
    tail : List KeyValue
    tail = of_keys (λ k. key_le from k && key_lt k to) xs

    by : (b : Bool) → key_le from x.key ≡ b → (d : Bool) → key_lt x.key to ≡ d → (e : Bool) → key_le to x.key ≡ e
        → tail ++ of_keys (key_le to) xs ≡ of_keys (key_le from) xs
        → cond (b && d) (x ∷ tail) tail ++ cond e (x ∷ of_keys (key_le to) xs) (of_keys (key_le to) xs)
        ≡ cond b (x ∷ of_keys (key_le from) xs) (of_keys (key_le from) xs)
    by true g true i false j same = ap (λ zs. x ∷ zs) same
    by true g true i true j same = let bad : true ≡ false = sym j ∙ lt-not x.key to i in cc
    by true g false i true j same =
        ap (λ zs. zs ++ x ∷ of_keys (key_le to) xs) (filter-none _ xs (above-not from to x.key xs j a.0))
        ∙ ap (λ zs. x ∷ zs) (alike (key_le to) (key_le from) xs (above-both from to x.key xs g j a.0))
    by true g false i false j same = let bad : true ≡ false = sym (not-lt x.key to i) ∙ j in cc
    by false g d i true j same = let bad : true ≡ false = sym (le-trans from to x.key l j) ∙ g in cc
    by false g d i false j same = same

pub through-gap : (c : List ℕ → Bool) (from to : List ℕ) (xs ys : List KeyValue) → key_le from to ≡ true → IsAscending (keys_of ys)
    → AreButFrom c from xs ys → AreButFrom c to (xs ++ of_keys (λ k. key_le from k && key_lt k to) ys) ys
through-gap c from to xs ys l a so_far = λ f none.
    let more : List KeyValue = of_keys (λ k. key_le from k && key_lt k to) ys in
    ap (λ zs. zs ++ of_keys f (of_keys (key_le to) ys)) (filter-append (λ kv. f kv.key) xs more)
    ∙ append_assoc (of_keys f xs) (of_keys f more) (of_keys f (of_keys (key_le to) ys))
    ∙ ap (λ zs. of_keys f xs ++ zs) (sym (filter-append (λ kv. f kv.key) more (of_keys (key_le to) ys)) ∙ ap (of_keys f) (cut from to l ys a))
    ∙ so_far f none

pub to-end : (c : List ℕ → Bool) (from : List ℕ) (xs ys : List KeyValue) → AreButFrom c from xs ys
    → AreBut c (xs ++ of_keys (key_le from) ys) ys
to-end c from xs ys so_far = λ f none. filter-append (λ kv. f kv.key) xs (of_keys (key_le from) ys) ∙ so_far f none

-- ---- the live keys of a part of a range

within : (vs : List Version) (p : Rev) (r s : KeyRange) (g : List ℕ → Bool) → ((k : List ℕ) → in_range s k ≡ (in_range r k && g k))
    → (ks : List (List ℕ)) → filter_map (value_within vs p s) ks ≡ of_keys g (filter_map (value_within vs p r) ks)
within vs p r s g h [] = refl
within vs p r s g h (k ∷ ks) = ap (λ b. cons_option (cond b (value_at vs p k) None) (filter_map (value_within vs p s) ks)) (h k)
    ∙ by (in_range r k) (g k) refl (value_at vs p k) refl (within vs p r s g h ks)
  where
    rest : List KeyValue
    rest = filter_map (value_within vs p r) ks

    by : (b d : Bool) → g k ≡ d → (o : Option KeyValue) → value_at vs p k ≡ o → filter_map (value_within vs p s) ks ≡ of_keys g rest
        → cons_option (cond (b && d) o None) (filter_map (value_within vs p s) ks) ≡ of_keys g (cons_option (cond b o None) rest)
    by true true e None f same = same
    by true false e None f same = same
    by true true e (Some kv) f same =
        ap (λ zs. kv ∷ zs) same ∙ ap (λ t. cond t (kv ∷ of_keys g rest) (of_keys g rest)) (sym (ap g (value_at-key vs p k kv f) ∙ e))
    by true false e (Some kv) f same = same ∙ ap (λ t. cond t (kv ∷ of_keys g rest) (of_keys g rest)) (sym (ap g (value_at-key vs p k kv f) ∙ e))
    by false d e o f same = same

pub live-within : (vs : List Version) (p : Rev) (r s : KeyRange) (g : List ℕ → Bool)
    → ((k : List ℕ) → in_range s k ≡ (in_range r k && g k)) → live vs p s ≡ of_keys g (live vs p r)
unfolding live
live-within vs p r s g h = within vs p r s g h (keys vs)

-- ---- the walk

-- a walk begins with nothing, where the range does
pub begins : (vs : List Version) (p : Rev) (r : KeyRange) (w : Stretch) (c : List ℕ → Bool) → ((k : List ℕ) → has w k ≡ in_range r k)
    → AreButFrom c w.from.now [] (live vs p r)
begins vs p r w c h = λ f none. ap (of_keys f) (sym (live-within vs p r r (key_le w.from.now) each))
  where
    each : (k : List ℕ) → in_range r k ≡ (in_range r k && key_le w.from.now k)
    each k = sym (h k) ∙ by (key_le w.from.now k) (is_below w.to k) ∙ ap (λ b. b && key_le w.from.now k) (h k)
      where
        by : (a b : Bool) → (a && b) ≡ ((a && b) && a)
        by true true = refl
        by true false = refl
        by false b = refl

lt-trans : (a b c : List ℕ) → key_lt a b ≡ true → key_lt b c ≡ true → key_lt a c ≡ true
lt-trans a b c h g = by (key_cmp a b) refl h (key_cmp b c) refl g
  where
    by : (o : Ordering) → key_cmp a b ≡ o → is_lt o ≡ true → (q : Ordering) → key_cmp b c ≡ q → is_lt q ≡ true → key_lt a c ≡ true
    by Less e f Less i j = ap is_lt (nat_list_cmp_total.trans a b c e i)
    by Less e f Equal i j = cc
    by Less e f Greater i j = cc
    by Equal e f q i j = cc
    by Greater e f q i j = cc

below-more : (to : Option (Bor (List ℕ))) (k l : List ℕ) → key_lt k l ≡ true → is_below to l ≡ true → is_below to k ≡ true
below-more None k l h g = refl
below-more (Some to) k l h g = lt-trans k l to.now h g

-- the keys of a gap are those of the range that lie in it
pub part-gap : (w : Stretch) (r : KeyRange) (from to : List ℕ) → ((k : List ℕ) → has w k ≡ in_range r k) → key_le w.from.now from ≡ true
    → is_below w.to to ≡ true → (k : List ℕ) → (key_le from k && key_lt k to) ≡ (in_range r k && (key_le from k && key_lt k to))
part-gap w r from to h l m k = by (key_le from k) refl (key_lt k to) refl
  where
    by : (a : Bool) → key_le from k ≡ a → (b : Bool) → key_lt k to ≡ b → (a && b) ≡ (in_range r k && (a && b))
    by true e true f =
        let it : has w k ≡ true = λ i. le-trans w.from.now from k l e i && below-more w.to k to f m i in
        sym it ∙ h k ∙ sym (and-true (in_range r k))
    by true e false f = sym (and-false (in_range r k))
    by false e b f = sym (and-false (in_range r k))

-- and so are those of the rest
pub part-rest : (w : Stretch) (r : KeyRange) (from : List ℕ) → ((k : List ℕ) → has w k ≡ in_range r k) → key_le w.from.now from ≡ true
    → (k : List ℕ) → (key_le from k && is_below w.to k) ≡ (in_range r k && key_le from k)
part-rest w r from h l k = by (key_le from k) refl
  where
    by : (a : Bool) → key_le from k ≡ a → (a && is_below w.to k) ≡ (in_range r k && a)
    by true e =
        let it : has w k ≡ is_below w.to k = λ i. le-trans w.from.now from k l e i && is_below w.to k in
        sym it ∙ h k ∙ sym (and-true (in_range r k))
    by false e = sym (and-false (in_range r k))

-- what a stretch covers from a key of it on
pub covered-ahead : (s : Stretch) (c : List ℕ → Bool) (from : List ℕ) → ((k : List ℕ) → has s k ≡ c k) → c from ≡ true
    → IsAhead c from (covered_up_to s.to)
covered-ahead s c from h m = by s.to refl
  where
    first : key_le s.from.now from ≡ true
    first = and-first (key_le s.from.now from) (is_below s.to from) (h from ∙ m)

    last : is_below s.to from ≡ true
    last = and-last (key_le s.from.now from) (is_below s.to from) (h from ∙ m)

    at : (k : List ℕ) → key_le from k ≡ true → is_below s.to k ≡ true → c k ≡ true
    at k e f = sym (h k) ∙ (λ i. le-trans s.from.now from k first e i && f i)

    by : (to : Option (Bor (List ℕ))) → s.to ≡ to → IsAhead c from (covered_up_to to)
    by None e = λ k g. at k g (ap (λ t. is_below t k) e)
    by (Some to) e = (lt-le from to.now (ap (λ t. is_below t from) (sym e) ∙ last), λ k g f. at k g (ap (λ t. is_below t k) e ∙ f))

-- ---- ranges that are dropped or put in

pub any-removed : {X : Type 0} (p : X → Bool) (i : ℕ) (xs : List X) → list_any p (take i xs ++ drop (suc i) xs) ≡ true → list_any p xs ≡ true
any-removed p zero [] h = h
any-removed p zero (x ∷ xs) h = by (p x) h
  where
    by : (b : Bool) → list_any p xs ≡ true → (b || list_any p xs) ≡ true
    by true e = refl
    by false e = e
any-removed p (suc i) [] h = h
any-removed p (suc i) (x ∷ xs) h = by (p x) h (any-removed p i xs)
  where
    by : (b : Bool) → (b || list_any p (take i xs ++ drop (suc i) xs)) ≡ true
        → (list_any p (take i xs ++ drop (suc i) xs) ≡ true → list_any p xs ≡ true) → (b || list_any p xs) ≡ true
    by true e f = refl
    by false e f = f e

pub any-inserted : {X : Type 0} (p : X → Bool) (x : X) (i : ℕ) (xs : List X) → list_any p (take i xs ++ x ∷ drop i xs) ≡ true
    → (list_any p xs || p x) ≡ true
any-inserted p x zero xs h = by (p x) (list_any p xs) h
  where
    by : (b d : Bool) → (b || d) ≡ true → (d || b) ≡ true
    by true true e = refl
    by true false e = refl
    by false true e = refl
    by false false e = e
any-inserted p x (suc i) [] h = by (p x) h
  where
    by : (b : Bool) → (b || false) ≡ true → b ≡ true
    by true e = refl
    by false e = e
any-inserted p x (suc i) (y ∷ ys) h = by (p y) h (any-inserted p x i ys)
  where
    by : (b : Bool) → (b || list_any p (take i ys ++ x ∷ drop i ys)) ≡ true
        → (list_any p (take i ys ++ x ∷ drop i ys) ≡ true → (list_any p ys || p x) ≡ true) → ((b || list_any p ys) || p x) ≡ true
    by true e f = refl
    by false e f = f e

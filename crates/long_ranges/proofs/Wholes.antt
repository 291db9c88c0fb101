-- What is live in a range is what is live in its parts.
use Rattle.std.proofs.Common.{◌≡◌, ℕ, List, [], ◌∷◌, ◌++◌, Bool, true, false, cond, Option, None, Some, filter_map, refl, sym, ◌∙◌, ap}
use Rattle.std.specs.List.{AllByRecursion, cons_option}
use Rattle.kv_model.specs.declared.version.Rev.{Rev}
use Rattle.kv_model.specs.declared.version.Version.{Version}
use Rattle.kv_model.specs.declared.version.KeyRange.{KeyRange}
use Rattle.kv_model.specs.History.{KeyValue, value_at}
use Rattle.kv_model.specs.Keys.{in_range, key_cmp, key_lt}
use Rattle.kv_model.specs.Lists.{is_empty}
use Rattle.kv_model.specs.Ranges.{keys, live, value_within}
use Rattle.std.specs.declared.cmp.Ordering.TheVariants.{Less}
use Rattle.store_laws.specs.Laws.{IsStrictlyAscending}
use Rattle.store_laws.proofs.KeyLaws.{ascending-keys}
use Rattle.long_ranges.specs.Laws.{IsCut, PartsMakeTheWhole, below, from}
use Rattle.long_ranges.proofs.Keys.{in_lower, in_upper, not_below, not_lower, not_upper}

module _ (vs : List Version) (p : Rev) (r : KeyRange) (k : List ℕ) (none : value_at vs p [] ≡ None) (e : is_empty r.end ≡ false) (c : IsCut r k) where
  abbrev whole : List ℕ → Option KeyValue
  whole = value_within vs p r

  abbrev low : List ℕ → Option KeyValue
  low = value_within vs p (below r k)

  abbrev high : List ℕ → Option KeyValue
  high = value_within vs p (from r k)

  -- a key that holds something has bytes
  has_bytes : (x : List ℕ) (v : KeyValue) → value_at vs p x ≡ Some v → is_empty x ≡ false
  has_bytes [] v h = let bad : None ≡ Some v = sym none ∙ h in cc
  has_bytes (n ∷ ns) v h = refl

  abbrev no_value : Option KeyValue
  no_value = None

  neither : (b : Bool) → cond b no_value no_value ≡ no_value
  neither true = refl
  neither false = refl

  low_is : (x : List ℕ) → key_lt x k ≡ true → low x ≡ whole x
  low_is x l = by (value_at vs p x) refl
    where
      by : (o : Option KeyValue) → value_at vs p x ≡ o → cond (in_range (below r k) x) o None ≡ cond (in_range r x) o None
      by None h = neither (in_range (below r k) x) ∙ sym (neither (in_range r x))
      by (Some v) h = ap (λ b. cond b (Some v) None) (in_lower r k e c x (has_bytes x v h) l)

  high_is : (x : List ℕ) → key_lt x k ≡ false → high x ≡ whole x
  high_is x l = ap (λ b. cond b (value_at vs p x) None) (in_upper r k e c x l)

  no_high : (x : List ℕ) → key_lt x k ≡ true → high x ≡ None
  no_high x l = ap (λ b. cond b (value_at vs p x) None) (not_upper r k e c x l)

  no_low : (x : List ℕ) → key_lt x k ≡ false → low x ≡ None
  no_low x l = ap (λ b. cond b (value_at vs p x) None) (not_lower r k e c x l)

  -- from the key on
  lows : (xs : List (List ℕ)) → AllByRecursion (λ x. key_lt x k ≡ false) xs → filter_map low xs ≡ []
  lows [] h = refl
  lows (x ∷ xs) h = ap (λ o. cons_option o (filter_map low xs)) (no_low x h.0) ∙ lows xs h.1

  highs : (xs : List (List ℕ)) → AllByRecursion (λ x. key_lt x k ≡ false) xs → filter_map high xs ≡ filter_map whole xs
  highs [] h = refl
  highs (x ∷ xs) h = ap (λ o. cons_option o (filter_map high xs)) (high_is x h.0) ∙ ap (cons_option (whole x)) (highs xs h.1)

  behind : (x : List ℕ) (xs : List (List ℕ)) → key_lt x k ≡ false → AllByRecursion (λ y. key_cmp x y ≡ Less) xs → AllByRecursion (λ y. key_lt y k ≡ false) xs
  behind x [] l h = tt
  behind x (y ∷ ys) l h = (not_below x y k l h.0, behind x ys l h.1)

  joins : (o : Option KeyValue) (xs ys : List KeyValue) → cons_option o xs ++ ys ≡ cons_option o (xs ++ ys)
  joins None xs ys = refl
  joins (Some v) xs ys = refl

  walk : (xs : List (List ℕ)) → IsStrictlyAscending xs → filter_map low xs ++ filter_map high xs ≡ filter_map whole xs
  walk [] a = refl
  walk (x ∷ xs) a = by (key_lt x k) refl (walk xs a.1)
    where
      by : (b : Bool) → key_lt x k ≡ b → filter_map low xs ++ filter_map high xs ≡ filter_map whole xs
          → filter_map low (x ∷ xs) ++ filter_map high (x ∷ xs) ≡ filter_map whole (x ∷ xs)
      by true l rest =
          ap (λ o. cons_option (low x) (filter_map low xs) ++ cons_option o (filter_map high xs)) (no_high x l)
          ∙ joins (low x) (filter_map low xs) (filter_map high xs)
          ∙ ap (cons_option (low x)) rest ∙ ap (λ o. cons_option o (filter_map whole xs)) (low_is x l)
      by false l rest =
          ap (λ ys. ys ++ filter_map high (x ∷ xs)) (lows (x ∷ xs) (l, behind x xs l a.0)) ∙ highs (x ∷ xs) (l, behind x xs l a.0)

  pub whole_of_parts : live vs p (below r k) ++ live vs p (from r k) ≡ live vs p r
  unfolding live
  whole_of_parts = walk (keys vs) (ascending-keys vs)

pub parts_make_the_whole : PartsMakeTheWhole
parts_make_the_whole vs p r k none e c = whole_of_parts vs p r k none e c

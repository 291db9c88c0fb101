-- A map from keys as the list of its pairs, the keys ascending, and the ways to change such a list.
use Rattle.std.specs.Prelude.{◌≡◌, ℕ, List, [], ◌∷◌, Bool, Option, None, Some, filter, if◌then◌else◌, ⊤}
use Rattle.std.specs.List.{AllByRecursion}
use Rattle.std.specs.declared.cmp.Ordering.TheVariants.{Less}
use Rattle.std.specs.Ordering.{is_gt}
use Rattle.std.specs.Map.{lookup, set_value, remove_entry}
use Rattle.std.specs.BTreeMap.{insert_entry, is_at as is_key}
use Rattle.kv_model.specs.Keys.{key_cmp, key_le}

module _ {X : Type 0} where
  -- each key stands before those behind it
  abbrev pub IsAscending : List (List ℕ × X) → Type 0
  IsAscending [] = ⊤
  IsAscending (e ∷ es) = AllByRecursion (λ f. key_cmp e.0 f.0 ≡ Less) es × IsAscending es

  -- the value of a key
  abbrev pub found : List ℕ → List (List ℕ × X) → Option X
  found k es = lookup (is_key (key_cmp k)) es

  -- a key in its place, with a value
  abbrev pub inserted : List ℕ → X → List (List ℕ × X) → List (List ℕ × X)
  inserted k v es = insert_entry key_cmp es k v

  -- another value of a key that is there
  abbrev pub with_value : List ℕ → X → List (List ℕ × X) → List (List ℕ × X)
  with_value k v es = set_value (is_key (key_cmp k)) es v

  -- without a key
  abbrev pub without : List ℕ → List (List ℕ × X) → List (List ℕ × X)
  without k es = remove_entry (is_key (key_cmp k)) es

  -- a key goes in with a first value where it is not there; else its value grows
  abbrev pub put_by : (X → X) → List ℕ → X → List (List ℕ × X) → Option X → List (List ℕ × X)
  put_by f k v es None = inserted k v es
  put_by f k v es (Some w) = with_value k (f w) es

  abbrev pub put_in : (X → X) → List ℕ → X → List (List ℕ × X) → List (List ℕ × X)
  put_in f k v es = put_by f k v es (found k es)

  -- what is left of the value of a key; without any the key goes
  abbrev pub cut_by : (X → X) → (X → Bool) → List ℕ → List (List ℕ × X) → Option X → List (List ℕ × X)
  cut_by f s k es None = es
  cut_by f s k es (Some w) = if s w then without k es else with_value k (f w) es

  abbrev pub cut_in : (X → X) → (X → Bool) → List ℕ → List (List ℕ × X) → List (List ℕ × X)
  cut_in f s k es = cut_by f s k es (found k es)

  -- what is told of the value of a key
  abbrev pub told_by : {C : Type 0} → (X → C) → C → Option X → C
  told_by f c None = c
  told_by f c (Some w) = f w

  -- the keys from one on
  abbrev pub from_key : List ℕ → List (List ℕ × X) → List (List ℕ × X)
  from_key k es = filter (λ e. key_le k e.0) es

  -- the keys below one
  abbrev pub below_key : List ℕ → List (List ℕ × X) → List (List ℕ × X)
  below_key k es = filter (λ e. is_gt (key_cmp k e.0)) es

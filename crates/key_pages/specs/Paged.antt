-- Pairs in pages.
use Rattle.std.specs.Prelude.{ℕ, zero, suc, ◌<◌, List, [], ◌∷◌, Bool, true, false, Option, None, Some, length, drop, set}
use Rattle.std.specs.Prelude.{if◌then◌else◌}
use Rattle.std.specs.List.{AllByRecursion, flat_map, slice_get, remove}
use Rattle.std.specs.Ordering.{is_eq, is_gt, is_ge}
use Rattle.kv_model.specs.Keys.{key_cmp}
use Rattle.kv_model.specs.Lists.{is_empty}
use Rattle.store_laws.specs.Rising.{count_while, newest}
use Rattle.key_pages.specs.Pairs.{IsAscending}

module _ {X : Type 0} where
  -- the pairs of all pages
  abbrev pub flat : List (List (List ℕ × X)) → List (List ℕ × X)
  flat ps = flat_map (λ p. p) ps

  -- each page has a pair
  abbrev pub HavePairs : List (List (List ℕ × X)) → Type 0
  HavePairs ps = AllByRecursion (λ p. 0 < length p) ps

  -- the pages of a map
  pub record ArePages (ps : List (List (List ℕ × X))) : Type 0 where
    pub ascending : IsAscending (flat ps)
    pub held : HavePairs ps

  -- a key is below another
  abbrev pub is_below : List ℕ → List ℕ × X → Bool
  is_below k e = is_gt (key_cmp k e.0)

  -- how many keys are below another, where they ascend
  abbrev pub count_below : List ℕ → List (List ℕ × X) → ℕ
  count_below k es = count_while (is_below k) es

  abbrev pub is_pair_of : List ℕ → Option (List ℕ × X) → Bool
  is_pair_of k None = false
  is_pair_of k (Some e) = is_eq (key_cmp k e.0)

  -- the value of a pair of the key
  abbrev pub value_if : List ℕ → Option (List ℕ × X) → Option X
  value_if k None = None
  value_if k (Some e) = if is_eq (key_cmp k e.0) then Some e.1 else None

  -- the key stands at an index
  abbrev pub is_there : List ℕ → ℕ → List (List ℕ × X) → Bool
  is_there k i es = is_pair_of k (slice_get es i)

  abbrev pub is_below_pair : List ℕ → Option (List ℕ × X) → Bool
  is_below_pair k None = false
  is_below_pair k (Some e) = is_below k e

  -- there is a key at an index that is below another
  abbrev pub is_below_at : List ℕ → ℕ → List (List ℕ × X) → Bool
  is_below_at k i es = is_below_pair k (slice_get es i)

  -- the key before an index, if it is not the first, is below another
  abbrev pub is_place_behind : List ℕ → ℕ → List (List ℕ × X) → Bool
  is_place_behind k zero es = true
  is_place_behind k (suc i) es = is_below_at k i es

  -- the first key of a page, if it has one, is not above another
  abbrev pub starts_up_to : List ℕ → List (List ℕ × X) → Bool
  starts_up_to k [] = true
  starts_up_to k (e ∷ es) = is_ge (key_cmp k e.0)

  abbrev pub does_start : List ℕ → Option (List (List ℕ × X)) → Bool
  does_start k None = false
  does_start k (Some p) = starts_up_to k p

  -- there is a page at an index that does not start above a key
  abbrev pub starts_at : List ℕ → ℕ → List (List (List ℕ × X)) → Bool
  starts_at k i ps = does_start k (slice_get ps i)

  -- the page before an index, if it is not the first, does not start above a key
  abbrev pub starts_behind : List ℕ → ℕ → List (List (List ℕ × X)) → Bool
  starts_behind k zero ps = true
  starts_behind k (suc i) ps = starts_at k i ps

  abbrev pub is_below_or_none : List ℕ → Option (List ℕ × X) → Bool
  is_below_or_none k None = true
  is_below_or_none k (Some e) = is_below k e

  -- the last key of a page, if it has one, is below another
  abbrev pub ends_below : List ℕ → List (List ℕ × X) → Bool
  ends_below k es = is_below_or_none k (newest es)

  abbrev pub ends_below_or_none : List ℕ → Option (List (List ℕ × X)) → Bool
  ends_below_or_none k None = true
  ends_below_or_none k (Some p) = ends_below k p

  -- the last page, if there is one, ends below a key
  abbrev pub is_behind : List ℕ → List (List (List ℕ × X)) → Bool
  is_behind k ps = ends_below_or_none k (newest ps)

  -- the page on which a key stands, or has its place: the last one that does not start above it, and else the first
  abbrev pub page_index : List ℕ → List (List (List ℕ × X)) → ℕ
  page_index k ps = count_while (starts_up_to k) (drop 1 ps)

  -- one page is changed
  abbrev pub change_at : (List (List ℕ × X) → List (List ℕ × X)) → ℕ → List (List (List ℕ × X)) → List (List (List ℕ × X))
  change_at f i [] = []
  change_at f zero (p ∷ ps) = f p ∷ ps
  change_at f (suc i) (p ∷ ps) = p ∷ change_at f i ps

  -- what is left of the value at an index; without any the pair goes
  abbrev pub cut_at : (X → X) → (X → Bool) → ℕ → List ℕ × X → List (List ℕ × X) → List (List ℕ × X)
  cut_at f s i e es = if s e.1 then remove es i else set es i (e.0, f e.1)

  abbrev pub is_void : Option (List (List ℕ × X)) → Bool
  is_void None = false
  is_void (Some p) = is_empty p

  -- a page without pairs goes
  abbrev pub freed : ℕ → List (List (List ℕ × X)) → List (List (List ℕ × X))
  freed i ps = if is_void (slice_get ps i) then remove ps i else ps

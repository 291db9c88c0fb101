-- Sets of keys.
use Rattle.std.proofs.Common.{◌≡◌, ℕ, List, [], ◌∷◌, Bool, true, false, not, ◌||◌, cond, filter, refl, sym, ◌∙◌, ap}
use Rattle.std.specs.List.{list_any}
use Rattle.std.specs.Set.{remove_key}
use Rattle.std.specs.BTreeMap.{is_at}
use Rattle.std.specs.Cmp.Lexicographic.{texts_ties}
use Rattle.std.specs.List.Sorted.{IsStrictlySortedBy}
use Rattle.std.specs.Ordering.{match_ordering}
use Rattle.std.specs.BTreeSet as std
use Rattle.kv_model.specs.Keys.{key_cmp, same_key}
use Rattle.kv_model.specs.Ranges.{insert_key}
use Rattle.store_laws.specs.Laws.{IsStrictlyAscending}
use Rattle.store_laws.proofs.KeyLaws.{has_key, has_key-insert}
use Rattle.lease_keys.specs.Pairs.{without_key}

-- the order that std keeps is that of keys
pub ascending-sorted : (ks : List (List ℕ)) → IsStrictlySortedBy key_cmp ks → IsStrictlyAscending ks
unfolding IsStrictlySortedBy
ascending-sorted [] h = tt
ascending-sorted (k ∷ ks) h = (h.0, ascending-sorted ks h.1)

-- std's way to insert a key is the model's
inserted : (k : List ℕ) (ls : List (List ℕ)) → std.insert_key key_cmp ls k ≡ insert_key k ls
inserted k [] = refl
inserted k (l ∷ ls) = ap (λ js. match_ordering (key_cmp k l) (k ∷ l ∷ ls) (l ∷ ls) (l ∷ js)) (inserted k ls)

-- a key that is inserted is there, beside those that were
pub inserted-has : (q k : List ℕ) (ls : List (List ℕ)) → has_key q (std.insert_key key_cmp ls k) ≡ (same_key k q || has_key q ls)
inserted-has q k ls = ap (has_key q) (inserted k ls) ∙ has_key-insert q k ls

module _ (test : List ℕ → Bool) where
  none-passes : (ks : List (List ℕ)) → list_any test ks ≡ false → ks ≡ filter (λ j. not (test j)) ks
  none-passes [] h = refl
  none-passes (k ∷ ks) h = by (test k) h (none-passes ks)
    where
      by : (b : Bool) → (b || list_any test ks) ≡ false → (list_any test ks ≡ false → ks ≡ filter (λ j. not (test j)) ks)
          → k ∷ ks ≡ cond (not b) (k ∷ filter (λ j. not (test j)) ks) (filter (λ j. not (test j)) ks)
      by true g rest = cc
      by false g rest = ap (λ js. k ∷ js) (rest g)

  -- the first key that passes is taken out, and no other did
  first-removed : (ks : List (List ℕ)) → list_any test (remove_key test ks) ≡ false
      → remove_key test ks ≡ filter (λ j. not (test j)) ks
  first-removed [] h = refl
  first-removed (k ∷ ks) h = by (test k) refl h (first-removed ks)
    where
      by : (b : Bool) → test k ≡ b → list_any test (cond b ks (k ∷ remove_key test ks)) ≡ false
          → (list_any test (remove_key test ks) ≡ false → remove_key test ks ≡ filter (λ j. not (test j)) ks)
          → cond b ks (k ∷ remove_key test ks) ≡ cond (not b) (k ∷ filter (λ j. not (test j)) ks) (filter (λ j. not (test j)) ks)
      by true e g rest = none-passes ks g
      by false e g rest = ap (λ js. k ∷ js) (rest (sym (ap (λ b. b || list_any test (remove_key test ks)) e) ∙ g))

-- std's way to take a key out
pub removed : (k : List ℕ) (ks : List (List ℕ)) → list_any (is_at (key_cmp k)) (remove_key (is_at (key_cmp k)) ks) ≡ false
    → remove_key (is_at (key_cmp k)) ks ≡ without_key k ks
removed k ks h = first-removed (is_at (key_cmp k)) ks h
    ∙ ap (λ (test : List ℕ → Bool). filter (λ j. not (test j)) ks) (λ i j. sym (texts_ties k j) i)

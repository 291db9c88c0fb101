-- Keys that ranges cover, and lists of key-values that leave out some of them.
use Rattle.std.specs.Prelude.{◌≡◌, ℕ, List, filter, Bool, true, false}
use Rattle.std.specs.List.{AllByRecursion, list_any}
use Rattle.std.specs.Borrow.{Bor}
use Rattle.kv_model.specs.declared.version.KeyRange.{KeyRange}
use Rattle.kv_model.specs.Keys.{in_range}
use Rattle.kv_model.specs.History.{KeyValue}

-- one of the ranges has the key
abbrev pub covers : List (Bor KeyRange) → List ℕ → Bool
covers rs k = list_any (λ r. in_range r.now k) rs

-- those whose keys pass the test
abbrev pub of_keys : (List ℕ → Bool) → List KeyValue → List KeyValue
of_keys f kvs = filter (λ kv. f kv.key) kvs

-- the test passes no key that is covered
abbrev pub PassesNone : (List ℕ → Bool) → (List ℕ → Bool) → List KeyValue → Type 0
PassesNone c f kvs = AllByRecursion (λ kv. c kv.key ≡ true → f kv.key ≡ false) kvs

-- these lack of those only what is covered: no test that passes nothing of that tells them apart
abbrev pub AreBut : (List ℕ → Bool) → List KeyValue → List KeyValue → Type 0
AreBut c xs ys = (f : List ℕ → Bool) → PassesNone c f ys → of_keys f xs ≡ of_keys f ys

-- Pairs of a lease and a key, by leases.
use Rattle.std.specs.Prelude.{◌≡◌, ◌≢◌, ℕ, ℤ, List, [], Bool, not, filter, unwrap_or, if◌then◌else◌}
use Rattle.std.specs.List.{AllByRecursion, list_any}
use Rattle.std.specs.Map.{lookup}
use Rattle.std.specs.Ordering.{int_cmp, int_eq}
use Rattle.std.specs.BTreeMap.{is_at}
use Rattle.std.specs.BTreeSet.{insert_key}
use Rattle.kv_model.specs.Keys.{key_cmp, same_key}

-- each lease with its keys
abbrev pub Pairs : Type 0
Pairs = List (ℤ × List (List ℕ))

-- no lease that has an entry is without keys
abbrev pub HaveKeys : Pairs → Type 0
HaveKeys ps = AllByRecursion (λ e. e.1 ≢ []) ps

-- the keys of a lease, none where it has no entry
abbrev pub keys_at : ℤ → Pairs → List (List ℕ)
keys_at l ps = unwrap_or (lookup (is_at (int_cmp l)) ps) []

abbrev pub has_pair : ℤ → List ℕ → Pairs → Bool
has_pair l k ps = list_any (λ j. same_key j k) (keys_at l ps)

-- one lease's keys are others afterwards, and those of each other lease are as they were
abbrev pub AreSet : ℤ → List (List ℕ) → Pairs → Pairs → Type 0
AreSet l ks old new = (q : ℤ) → keys_at q new ≡ (if int_eq l q then ks else keys_at q old)

-- a key is added to those of a lease
abbrev pub AreAdded : ℤ → List ℕ → Pairs → Pairs → Type 0
AreAdded l k old new = AreSet l (insert_key key_cmp (keys_at l old) k) old new

-- a lease has no key any more
abbrev pub AreForgotten : ℤ → Pairs → Pairs → Type 0
AreForgotten l old new = AreSet l [] old new

abbrev pub without_key : List ℕ → List (List ℕ) → List (List ℕ)
without_key k ks = filter (λ j. not (same_key k j)) ks

-- a key goes from those of a lease
abbrev pub AreRemoved : ℤ → List ℕ → Pairs → Pairs → Type 0
AreRemoved l k old new = AreSet l (without_key k (keys_at l old)) old new

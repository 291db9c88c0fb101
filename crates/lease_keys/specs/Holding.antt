-- Which pairs an index has to have, so that the keys of a lease are found by it.
use Rattle.std.specs.Prelude.{◌≡◌, ◌⊎◌, ℕ, ℤ, pos, List, Bool, true, false, ◌&&◌, ◌||◌, not, Option, None, Some, is_none}
use Rattle.std.specs.Prelude.{if◌then◌else◌}
use Rattle.std.specs.List.{list_any}
use Rattle.std.specs.Ordering.{int_eq}
use Rattle.kv_model.specs.declared.version.Version.{Version}
use Rattle.kv_model.specs.declared.version.Body.{Body}
use Rattle.kv_model.specs.declared.version.Body.TheVariants.{Put, Gone}
use Rattle.kv_model.specs.Keys.{same_key}
use Rattle.kv_model.specs.History.{KeyValue}
use Rattle.lease_keys.specs.Pairs.{Pairs, has_pair}

-- 0 is no lease
abbrev pub is_lease : ℤ → Bool
is_lease l = not (int_eq l (pos 0))

-- each key that holds something put under a lease stands with that lease
abbrev pub Holds : Pairs → (List ℕ → Option KeyValue) → Type 0
Holds ps held = (k : List ℕ) (kv : KeyValue) → held k ≡ Some kv → is_lease kv.lease ≡ true
    → has_pair kv.lease k ps ≡ true

-- the lease that a put names
abbrev pub lease_of : Body → Option ℤ
lease_of (Put create version lease value) = if is_lease lease then Some lease else None
lease_of Gone = None

abbrev pub is_of : ℤ → Option ℤ → Bool
is_of l None = false
is_of l (Some m) = int_eq m l

-- some of the versions puts the key under the lease
abbrev pub puts_pair : ℤ → List ℕ → List Version → Bool
puts_pair l k vs = list_any (λ v. is_of l (lease_of v.body) && same_key v.key k) vs

-- the pairs of the versions are added
abbrev pub ArePut : List Version → Pairs → Pairs → Type 0
ArePut vs old new = (l : ℤ) (k : List ℕ) → has_pair l k new ≡ (puts_pair l k vs || has_pair l k old)

-- what a key holds, where it was put under this lease
abbrev pub under : ℤ → Option KeyValue → Option KeyValue
under l None = None
under l (Some kv) = if int_eq kv.lease l then Some kv else None

-- the lease that what a key holds was put under
abbrev pub lease_held : Option KeyValue → Option ℤ
lease_held None = None
lease_held (Some kv) = if is_lease kv.lease then Some kv.lease else None

-- the pairs are just those of each key that holds something put under a lease, and that lease
abbrev pub AreJust : Pairs → (List ℕ → Option KeyValue) → Type 0
AreJust ps held = (l : ℤ) (k : List ℕ) → has_pair l k ps ≡ is_of l (lease_held (held k))

-- of the pairs of the versions some are added: each pair is as it was, or it is one that they put, and is there
abbrev pub ArePartlyPut : List Version → Pairs → Pairs → Type 0
ArePartlyPut vs old new = (l : ℤ) (k : List ℕ)
    → (has_pair l k new ≡ has_pair l k old) ⊎ ((puts_pair l k vs ≡ true) × (has_pair l k new ≡ true))

-- the pair of a lease and a key goes where the key does not hold what was put under it, and each other pair stays
abbrev pub IsUnusedDropped : Option ℤ → List ℕ → (List ℕ → Option KeyValue) → Pairs → Pairs → Type 0
IsUnusedDropped o key held old new = (l : ℤ) (k : List ℕ)
    → has_pair l k new ≡ (has_pair l k old && not (is_of l o && same_key key k && is_none (under l (held k))))

-- so go the pairs that the versions put
abbrev pub AreTakenBack : List Version → (List ℕ → Option KeyValue) → Pairs → Pairs → Type 0
AreTakenBack vs held old new = (l : ℤ) (k : List ℕ)
    → has_pair l k new ≡ (has_pair l k old && not (puts_pair l k vs && is_none (under l (held k))))

-- some of the versions is of the key, and puts it under the lease, or the key held before what was put under that lease
abbrev pub touches : ℤ → List ℕ → (List ℕ → Option KeyValue) → List Version → Bool
touches l k before vs = list_any (λ v. same_key v.key k && (is_of l (lease_of v.body) || is_of l (lease_held (before k)))) vs

-- and so go the pairs of the keys of the versions, those that they put and those that were there before
abbrev pub AreSettled : List Version → (List ℕ → Option KeyValue) → (List ℕ → Option KeyValue) → Pairs → Pairs → Type 0
AreSettled vs before now old new = (l : ℤ) (k : List ℕ)
    → has_pair l k new ≡ (has_pair l k old && not (touches l k before vs && is_none (under l (now k))))

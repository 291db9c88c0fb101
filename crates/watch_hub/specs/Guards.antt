-- Guards: the ranges of the watches, in the order of their first keys, and how far back each of them tells.
use Rattle.std.specs.Prelude.{◌≡◌, ℕ, ◌+◌, ◌<◌, ◌≤◌, List, [], ◌∷◌, length, Bool, true, false, ◌&&◌, ◌==◌, Option, None}
use Rattle.std.specs.Prelude.{Some, if◌then◌else◌, ⊤}
use Rattle.std.specs.Prelude.{slice_index_or}
use Rattle.std.specs.List.{AllByRecursion}
use Rattle.kv_model.specs.declared.version.KeyRange.{KeyRange}
use Rattle.kv_model.specs.Keys.{same_key, key_lt, key_le, zero_byte}
use Rattle.kv_model.specs.Lists.{is_empty}
use Rattle.watch_hub.specs.declared.guards.Guard.{Guard}

-- the key from which on a range may have keys: the range of all keys has the key of no byte too
abbrev pub first_key : KeyRange → List ℕ
first_key r = if same_key r.end zero_byte && same_key r.key zero_byte then [] else r.key

-- a key is from the first key on
abbrev pub has_begun : KeyRange → List ℕ → Bool
has_begun r k = key_le (first_key r) k

-- a key is behind all of the range
abbrev pub is_past : KeyRange → List ℕ → Bool
is_past r k = if is_empty r.end then key_lt r.key k
    else if same_key r.end zero_byte then false
    else key_le r.end k

-- the range has no key behind this one
abbrev pub ends_at : KeyRange → List ℕ → Bool
ends_at r k = if is_empty r.end then key_le r.key k else is_past r k

-- the first range ends no later than the second
abbrev pub ends_by : KeyRange → KeyRange → Bool
ends_by r s = if is_empty s.end then ends_at r s.key
    else if same_key s.end zero_byte then true
    else is_past r s.end

-- what is behind the second range is behind the first
abbrev pub EndsBy : KeyRange → KeyRange → Type 0
EndsBy r s = (k : List ℕ) → is_past s k ≡ true → is_past r k ≡ true

abbrev pub begins_before : Guard → Guard → Type 0
begins_before g h = key_le (first_key g.range) (first_key h.range) ≡ true

-- the first keys do not fall
abbrev pub AreInOrder : List Guard → Type 0
AreInOrder [] = ⊤
AreInOrder (g ∷ gs) = AllByRecursion (begins_before g) gs × AreInOrder gs

-- those from the index back on up to this one end no later than it
abbrev pub IsBack : List Guard → ℕ → ℕ → Type 0
IsBack gs i back = (back ≤ i) × ((j : ℕ) (d : Guard) → back ≤ j → j < i
    → EndsBy (slice_index_or gs j d).range (slice_index_or gs i d).range)

-- each of the first so many guards has its way back
abbrev pub AreBacks : List Guard → List ℕ → ℕ → Type 0
AreBacks gs bs n = (i : ℕ) (e : ℕ) → i < n → IsBack gs i (slice_index_or bs i e)

-- the one before those that a way back passes ends later
abbrev pub IsFar : List Guard → ℕ → ℕ → Type 0
IsFar gs i back = (last : ℕ) (d : Guard) → back ≡ last + 1
    → ends_by (slice_index_or gs last d).range (slice_index_or gs i d).range ≡ false

-- and so it is at each of the first so many guards
abbrev pub AreFar : List Guard → List ℕ → ℕ → Type 0
AreFar gs bs n = (i : ℕ) (e : ℕ) → i < n → IsFar gs i (slice_index_or bs i e)

pub record AreReady (gs : List Guard) (bs : List ℕ) : Type 0 where
  pub ordered : AreInOrder gs
  pub count : length bs ≡ length gs
  pub backs : AreBacks gs bs (length gs)
  pub far : AreFar gs bs (length gs)

-- a key is behind each of the ranges from one index up to another
abbrev pub ArePast : List Guard → List ℕ → ℕ → ℕ → Type 0
ArePast gs k from to = (j : ℕ) (d : Guard) → from ≤ j → j < to → is_past (slice_index_or gs j d).range k ≡ true

-- the first so many ranges begin with a key or before it
abbrev pub AreBegun : List Guard → List ℕ → ℕ → Type 0
AreBegun gs k n = (j : ℕ) (d : Guard) → j < n → has_begun (slice_index_or gs j d).range k ≡ true

-- the ranges from an index on begin behind a key
abbrev pub AreToCome : List Guard → List ℕ → ℕ → Type 0
AreToCome gs k from = (j : ℕ) (d : Guard) → from ≤ j → j < length gs → has_begun (slice_index_or gs j d).range k ≡ false

-- the range of the watch at a place of the slab
abbrev pub range_at : ℕ → List Guard → Option KeyRange
range_at place [] = None
range_at place (g ∷ gs) = if g.place == place then Some g.range else range_at place gs

-- Where ranges begin and end.
use Rattle.std.specs.Prelude.{◌≡◌, ℕ, List, [], ◌∷◌, Bool, true, false, ◌&&◌, ◌||◌, if◌then◌else◌, Option, None, Some, ⊤}
use Rattle.std.specs.Prelude.{take, drop}
use Rattle.std.specs.List.{AllByRecursion}
use Rattle.std.specs.Borrow.{Bor}
use Rattle.kv_model.specs.declared.version.KeyRange.{KeyRange}
use Rattle.kv_model.specs.Keys.{key_le, key_lt, same_key, zero_byte}
use Rattle.kv_model.specs.Lists.{is_empty}

-- the key that a range begins with: the range of all keys has the key of no byte too
abbrev pub start_of : KeyRange → List ℕ
start_of r = if same_key r.end zero_byte && same_key r.key zero_byte then [] else r.key

-- the first key behind a range of several keys, if there is one
abbrev pub end_of : KeyRange → Option (List ℕ)
end_of r = if same_key r.end zero_byte then None else Some r.end

-- an end is another or lies behind it; no end lies behind all
abbrev pub is_from : Option (List ℕ) → Option (List ℕ) → Bool
is_from None to = true
is_from (Some end) None = false
is_from (Some end) (Some to) = key_le to end

-- a range of several keys goes on to an end at least
abbrev pub reaches : KeyRange → Option (List ℕ) → Bool
reaches r to = if is_empty r.end then false else is_from (end_of r) to

-- a range of several keys goes on to an end at most
abbrev pub ends_by : KeyRange → Option (List ℕ) → Bool
ends_by r to = if is_empty r.end then false else is_from to (end_of r)

-- ---- ranges in order

-- a range begins with a key or before it
abbrev pub begins_by : List ℕ → Bor KeyRange → Bool
begins_by k r = key_le (start_of r.now) k

-- a range begins before another, and ends before it
abbrev pub Precedes : KeyRange → KeyRange → Type 0
Precedes r s = (key_lt (start_of r) (start_of s) ≡ true) × (is_from (end_of r) (end_of s) ≡ false)

-- ranges of several keys in the order of their first keys, which is that of their ends
abbrev pub AreInOrder : List (Bor KeyRange) → Type 0
AreInOrder [] = ⊤
AreInOrder (r ∷ rs) = (is_empty r.now.end ≡ false) × AllByRecursion (λ s. Precedes r.now s.now) rs × AreInOrder rs

-- without those at the front that end by an end
abbrev pub past_ends : Option (List ℕ) → List (Bor KeyRange) → List (Bor KeyRange)
past_ends to [] = []
past_ends to (r ∷ rs) = if ends_by r.now to then past_ends to rs else r ∷ rs

-- a range of several keys goes to a place among ranges in order: behind those that precede it, before those that begin behind it, but
-- for some that end by its end
pub record Fits (rs : List (Bor KeyRange)) (r : KeyRange) (i : ℕ) : Type 0 where
  pub several : is_empty r.end ≡ false
  pub before : AllByRecursion (λ s. Precedes s.now r) (take i rs)
  pub behind : AllByRecursion (λ s. (ends_by s.now (end_of r) || key_lt (start_of r) (start_of s.now)) ≡ true) (drop i rs)

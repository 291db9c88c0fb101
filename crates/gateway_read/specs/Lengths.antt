-- Which lengths the names of an object have.
use Rattle.std.specs.Prelude.{◌≡◌, ◌==◌, ◌||◌, ℕ, List, length, min, Bool, true, false}
use Rattle.std.specs.Prelude.{slice_index_or, slice_set}
use Rattle.std.specs.Borrow.{Bor}
use Rattle.serde_json.specs.Data.{Members, no_members, member}
use Rattle.gateway_read.specs.Values.{Tree}

-- the place of a name's length: the last one is that of all longer names too
abbrev pub place_of : List ℕ → ℕ
place_of name = min (length name) 31

-- a member with its name
abbrev pub Named : Type 0
Named = Bor (List ℕ) × Tree

-- the places with that of a name
abbrev pub marked : List Bool → Named → List Bool
marked lengths m = slice_set lengths (place_of m.0.now) true

-- the place is that of some member's name
abbrev pub has_place : ℕ → Members → Bool
has_place p no_members = false
has_place p (member name d ms) = place_of name == p || has_place p ms

-- Each place is marked where it is that of some member's name, and nowhere else.
abbrev pub AreMarked : List Bool → Members → Type 0
AreMarked lengths ms = (p : ℕ) → slice_index_or lengths p false ≡ has_place p ms

-- What has come of a connection and was not answered, where an input is kept for it or none.
use Rattle.std.specs.Prelude.{◌≡◌, ℕ, List, [], Option, None, Some, Box}
use Rattle.std.specs.Global.{Global}

abbrev pub pending_of : Option (Box (List ℕ) Global) → List ℕ
pending_of None = []
pending_of (Some b) = b.value

-- of one that any connection may have nothing is left
abbrev pub IsSpare : Option (Box (List ℕ) Global) → Type 0
IsSpare b = pending_of b ≡ []

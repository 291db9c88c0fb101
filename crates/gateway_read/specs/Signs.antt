-- The symbols of base64 that need a look.
use Rattle.std.specs.Prelude.{ℕ, Bool, ◌==◌, ◌||◌}

-- a symbol that only the URL alphabet has
abbrev pub is_url : ℕ → Bool
is_url x = x == 45 || x == 95

abbrev pub is_padding : ℕ → Bool
is_padding x = x == 61

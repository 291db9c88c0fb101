-- The kinds of range, each told by the keys that bound it.
use Rattle.std.specs.Prelude.{ℕ, List, Bool, true, ◌&&◌}
use Rattle.kv_model.specs.declared.span.Span.{Span}
use Rattle.kv_model.specs.declared.span.Span.TheVariants.{Key, All, From, Interval}
use Rattle.kv_model.specs.Keys.{same_key, key_lt, key_le}

-- a key is one of those that a kind of range tells
abbrev pub is_within : Span → List ℕ → Bool
is_within (Key one) k = same_key k one.now
is_within All k = true
is_within (From from) k = key_le from.now k
is_within (Interval from to) k = key_le from.now k && key_lt k to.now

-- What a clause reads of a buffer. No public clause cites this module.
use Rattle.std.specs.Prelude.{◌≡◌, ℕ, ◌-◌, ◌<◌, ◌≤◌, List, length, Bool, true, false, Option, Result, Ok}
use Rattle.std.specs.Prelude.{Err, slice_range}
use Rattle.std.specs.Io.KnownBytes.{IsAtEnd}
use Rattle.http_reply.specs.declared.front.Front.{Front}
use Rattle.http_reply.specs.declared.front.Front.TheVariants as front
use Rattle.http_input.specs.declared.buffer.Buffer.{Buffer}

-- the bytes
abbrev pub items : Buffer → List ℕ
items b = slice_range b.room.items b.start b.end

-- how many more it has room for
abbrev pub room : Buffer → ℕ
room b = length b.room.items - b.end

-- what one read did to the bytes p, where left may be read still
abbrev pub Filled : Option (List ℕ) → List ℕ → List ℕ → Result Bool Front → Type 0
Filled left p q (Ok true) = length p < length q
Filled left p q (Ok false) = (q ≡ p) × IsAtEnd left
Filled left p q (Err front.Read) = q ≡ p
Filled left p q (Err front.Memory) = (q ≡ p) × (16384 ≤ length p)
Filled left p q (Err _) = ⊥

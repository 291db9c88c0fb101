-- What a text that is written leaves of a counted writer.
use Rattle.std.specs.Prelude.{◌≡◌, ℕ, ◌<◌, List, [], length, map, take, Option, Result, Ok, Err}
use Rattle.std.specs.Borrow.{Bor}
use Rattle.std.specs.List.{concat}
use Rattle.std.specs.Io.KnownBytes.{Appends}
use Rattle.http_reply.specs.declared.front.Front.{Front}
use Rattle.http_reply.specs.declared.front.Front.TheVariants as front
use Rattle.http_reply.specs.Counts.{one_more}

-- the bytes that a writer is known to hold grow by the text, by exactly the counted beginning of it where a write
-- failed, and by nothing without memory
abbrev pub Sends : {T : Type 0} → Result T Front → Option (List ℕ) → Option (List ℕ) → List ℕ → Type 0
Sends (Ok x) old new text = Appends old new text
Sends (Err (front.Write n)) old new text = (n < length text) × Appends old new (take n text)
Sends (Err front.Memory) old new text = Appends old new []
Sends (Err _) old new text = ⊥

-- the failures that the writer then tells: one more where the text was cut, and no other
abbrev pub failures_after : {T : Type 0} → Result T Front → ℕ → ℕ
failures_after (Err (front.Write n)) failures = one_more failures
failures_after _ failures = failures

-- pieces, one behind the other
abbrev pub joined : List (Bor (List ℕ)) → List ℕ
joined pieces = concat (map (λ piece. piece.now) pieces)

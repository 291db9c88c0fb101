-- What goes out on a connection, and what is kept until it does.
use Rattle.std.specs.Prelude.{◌≡◌, ◌⊎◌, ℕ, ◌<◌, ◌≤◌, List, [], ◌++◌, length, take, drop, Option, Result, Ok, Err}
use Rattle.std.specs.Io.KnownBytes.{Appends}

-- of the bytes that were to go out the first go out at a writer, in order, and the others are left
abbrev pub GoesOut : Option (List ℕ) → Option (List ℕ) → List ℕ → List ℕ → Type 0
GoesOut old new before after = (out : List ℕ) × Appends old new out × (before ≡ out ++ after)

-- the bytes that a write takes
abbrev pub taken : {E : Type 0} → Result ℕ E → List ℕ → List ℕ
taken (Ok n) bytes = take n bytes
taken (Err e) bytes = []

-- what a write that took n bytes keeps of them, behind what was kept before, where the first `gone` went out; it takes
-- all, or no memory is found for the rest, and then those alone that went out, of which there is one
abbrev pub KeepsRest : ℕ → ℕ → List ℕ → List ℕ → List ℕ → Type 0
KeepsRest n gone bytes before after = (gone ≤ n) × (n ≤ length bytes) × (after ≡ before ++ drop gone (take n bytes))
    × (n < length bytes → (0 < n) × (n ≡ gone))

-- what a call that was made counts as, where another result stands in the place of some failures
abbrev pub Settles : {E : Type 0} → (E → Type 0) → (Result ℕ E → Type 0) → Result ℕ E → Result ℕ E → Type 0
Settles changes stands_for (Ok n) settled = settled ≡ Ok n
Settles changes stands_for (Err e) settled = (changes e × stands_for settled) ⊎ ((changes e → ⊥) × (settled ≡ Err e))

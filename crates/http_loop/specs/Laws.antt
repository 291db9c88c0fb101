-- Laws of what the bytes of a connection are: each is the contract of a function that does nothing.
use Rattle.std.specs.Prelude.{◌≡◌, ℕ, List, [], ◌∷◌, length}
use Rattle.http_head.specs.Requests.{Asked, IsCut, ReadsAsked}

-- the bytes begin with these requests, and then there is rest
pub data AreAsked : List ℕ → List Asked → List ℕ → Type 0 where
  none : {bytes : List ℕ} → AreAsked bytes [] bytes
  more : {bytes left rest : List ℕ} {a : Asked} {later : List Asked} → ReadsAsked bytes a left → AreAsked left later rest
      → AreAsked bytes (a ∷ later) rest

-- as many requests of the same bytes are the same, and what follows is
abbrev pub IsReadInOneWay : Type 0
IsReadInOneWay = (bytes : List ℕ) (firsts seconds : List Asked) (r q : List ℕ) → AreAsked bytes firsts r → AreAsked bytes seconds q
    → length firsts ≡ length seconds → (firsts ≡ seconds) × (r ≡ q)

-- bytes that begin with a request do not end within it
abbrev pub IsNeverCutToo : Type 0
IsNeverCutToo = (bytes : List ℕ) (a : Asked) (rest : List ℕ) → ReadsAsked bytes a rest → IsCut bytes → ⊥

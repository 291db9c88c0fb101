-- What turns of a connection come to: Is says what answering one request does.
use Rattle.std.specs.Prelude.{◌≡◌, ℕ, ◌+◌, List, [], ◌++◌, Option, None, Some, Result, Ok, Err, ⊤}
use Rattle.std.specs.Io.KnownBytes.{Appends}
use Rattle.http_reply.specs.declared.front.Front.{Front}
use Rattle.http_reply.specs.declared.front.Front.TheVariants as front
use Rattle.http_loop.specs.declared.writing.Turn.{Turn}
use Rattle.http_loop.specs.declared.writing.Turn.TheVariants as turn
use Rattle.http_loop.specs.Answered.{Conn, IsTurn, Way}
use Rattle.http_loop.specs.Texts.{Grows, replies_more}

-- n requests were answered: whatever answers the bytes that are left, from what stands now, ends the answering of all
abbrev pub Begins : (S : Type 0) → Way S → S → List ℕ → ℕ → List ℕ → S → List ℕ → Type 0
Begins S Is s bytes n left t out = (k : ℕ) (more : List ℕ) (u : S) (r : Result ℕ Front) → Conn S Is t left k more u r
    → Conn S Is s bytes (n + k) (out ++ more) u (replies_more n r)

-- ---- the bytes of a reader

-- it gave these bytes, where it tells its own
abbrev pub Gave : Option (List ℕ) → List ℕ → Option (List ℕ) → Type 0
Gave None came left = ⊤
Gave (Some all) came None = ⊥
Gave (Some all) came (Some left) = all ≡ came ++ left

-- behind a turn it may still have these: its own, where it tells them; one that does not is asked for no more where the
-- turn ends the connection, and else they are whatever they are
abbrev pub MayHaveAfter : Option (List ℕ) → Result Turn Front → List ℕ → Type 0
MayHaveAfter (Some left) r later = later ≡ left
MayHaveAfter None (Ok turn.More) later = ⊤
MayHaveAfter None r later = later ≡ []

-- ---- how far a connection has come

-- what stands behind it, what its reader still has, where it tells that, what was read and not used, and what its writer
-- holds, where that is known
pub record Progress (S : Type 0) : Type 0 where
  pub state : S
  pub left : Option (List ℕ)
  pub pending : List ℕ
  pub wrote : Option (List ℕ)

abbrev pub progress : {S : Type 0} → S → Option (List ℕ) → List ℕ → Option (List ℕ) → Progress S
progress s left pending wrote = record { state = s; left = left; pending = pending; wrote = wrote }

-- one turn led from the one to the other, and ended so
pub record TurnsOnce (S : Type 0) (Is : Way S) (old new : Progress S) (r : Result Turn Front) : Type 0 where
  pub came : List ℕ
  pub gave : Gave old.left came new.left
  pub turn : Grows old.wrote new.wrote (λ out. (later : List ℕ) → MayHaveAfter new.left r later
      → IsTurn S Is old.state (old.pending ++ (came ++ later)) (new.pending ++ later) new.state r out)

-- n requests were answered from the one to the other
pub record SoFar (S : Type 0) (Is : Way S) (n : ℕ) (old new : Progress S) : Type 0 where
  pub came : List ℕ
  pub gave : Gave old.left came new.left
  pub begun : Grows old.wrote new.wrote (λ out. (later : List ℕ) → MayHaveAfter new.left (Ok turn.More) later
      → Begins S Is old.state (old.pending ++ (came ++ later)) n (new.pending ++ later) new.state out)

-- so it is of what a reader gives: of what it has, where it tells that, and else of some bytes
abbrev pub Given : Option (List ℕ) → (List ℕ → Type 0) → Type 0
Given None So = (came : List ℕ) × So came
Given (Some left) So = So left

-- What is written from here on is what the bytes are answered, of so many requests at most; then t stands, and the
-- result is the number of replies, or why there are no more.
abbrev pub Serves : (S : Type 0) → Way S → ℕ → Progress S → Option (List ℕ) → S → Result ℕ Front → Type 0
Serves S Is limit old wrote t r = Given old.left (λ came. Grows old.wrote wrote
    (λ out. Conn S Is old.state (old.pending ++ came) limit out t r))

-- no memory was found for the buffers, and nothing was done
pub record NotBegun {S : Type 0} (old new : S) (c c' : Option (List ℕ)) (r : Result ℕ Front) : Type 0 where
  pub memory : r ≡ Err front.Memory
  pub same : new ≡ old
  pub wrote : Appends c c' []

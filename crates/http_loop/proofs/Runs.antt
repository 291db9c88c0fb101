-- What one turn comes to, told of all that may follow it.
use Rattle.std.proofs.Common.{ℕ, ◌+◌, List, ◌++◌, Result, Ok, Err}
use Rattle.http_reply.specs.declared.front.Front.{Front}
use Rattle.http_loop.specs.declared.writing.Turn.{Turn}
use Rattle.http_loop.specs.declared.writing.Turn.TheVariants as turn
use Rattle.http_loop.specs.Answered.{Conn, Way}
use Rattle.http_loop.specs.Texts.{Grows}
use Rattle.http_loop.specs.Turned.{Begins, Gave, MayHaveAfter, Progress}

-- it ends so with the next request, wherever the limit allows one
abbrev pub Ends : (S : Type 0) → Way S → S → List ℕ → S → Result ℕ Front → List ℕ → Type 0
Ends S Is s bytes t r out = (limit : ℕ) → Conn S Is s bytes (1 + limit) out t r

-- what one turn comes to
abbrev pub Turned : (S : Type 0) → Way S → S → List ℕ → List ℕ → S → Result Turn Front → List ℕ → Type 0
Turned S Is s bytes left t (Ok turn.More) out = Begins S Is s bytes 1 left t out
Turned S Is s bytes left t (Ok turn.Last) out = Ends S Is s bytes t (Ok 1) out
Turned S Is s bytes left t (Ok turn.End) out = Ends S Is s bytes t (Ok 0) out
Turned S Is s bytes left t (Err f) out = Ends S Is s bytes t (Err f) out

-- one turn led from the one to the other, and ended so
pub record Turns (S : Type 0) (Is : Way S) (old new : Progress S) (r : Result Turn Front) : Type 0 where
  pub came : List ℕ
  pub gave : Gave old.left came new.left
  pub turned : Grows old.wrote new.wrote (λ out. (later : List ℕ) → MayHaveAfter new.left r later
      → Turned S Is old.state (old.pending ++ (came ++ later)) (new.pending ++ later) new.state r out)

-- The line of a put, piece by piece, as it is written.
use Rattle.std.proofs.Common.{◌≡◌, ℕ, List, ◌++◌, refl, ap, ◌∙◌, append_assoc}
use Rattle.std.specs.Prelude.{Result, Ok, Err, OnOk}

-- what follows from a fact of an `Ok`
pub on_ok : {T E : Type 0} (r : Result T E) (P Q : Type 0) → (P → Q) → OnOk r P → OnOk r Q
on_ok (Ok x) P Q f h = f h
on_ok (Err e) P Q f h = h

regrouped : (old w a b k c v l x n : List ℕ) → (old ++ w ++ a ++ b ++ k) ++ c ++ v ++ l ++ x ++ n ≡ old ++ (w ++ (a ++ (b ++ (k ++ (c ++ (v ++ (l ++ x))))))) ++ n
regrouped old w a b k c v l x n = simp append_assoc refl

-- pieces behind pieces
pub pieces_behind : (old w a b k c v l x n first new : List ℕ) → first ≡ old ++ w ++ a ++ b ++ k → new ≡ first ++ c ++ v ++ l ++ x ++ n
    → new ≡ old ++ (w ++ (a ++ (b ++ (k ++ (c ++ (v ++ (l ++ x))))))) ++ n
pieces_behind old w a b k c v l x n first new e h = h ∙ ap (λ s. s ++ c ++ v ++ l ++ x ++ n) e ∙ regrouped old w a b k c v l x n

-- What a reader gave until its end.
use Rattle.std.proofs.Common.{◌≡◌, ℕ, List, [], ◌++◌, Option, None, Some, IfSome, sym, ap, ◌∙◌}
use Rattle.std.proofs.lemmas.List.{append-nil}
use Rattle.std.specs.Io.KnownBytes.{Consumes, Keeps, IsAtEnd}

-- a read that gave nothing
pub none_read : (whole known left : Option (List ℕ)) (script : List ℕ) → Consumes whole known script → Keeps known left → Consumes whole left script
none_read None known left script a b = tt
none_read (Some xs) None left script a b = absurd a
none_read (Some xs) (Some ys) None script a b = absurd b
none_read (Some xs) (Some ys) (Some zs) script a b = a ∙ ap (λ t. script ++ t) (sym b)

-- what was read before the end is all that the reader had
pub all_read : (whole left : Option (List ℕ)) (script : List ℕ) → Consumes whole left script → IsAtEnd left → IfSome whole (λ text. script ≡ text)
all_read None left script a e = tt
all_read (Some xs) None script a e = absurd a
all_read (Some xs) (Some zs) script a e = sym (a ∙ ap (λ t. script ++ t) e ∙ append-nil script)

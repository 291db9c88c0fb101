-- What several writes, one after the other, did to known bytes.
use Rattle.std.proofs.Common.{◌≡◌, ℕ, ◌+◌, ◌<◌, List, [], ◌++◌, length, map, get_or, Result, Ok, Err, IsErr, Option, None, Some, take, drop, sym, ap, ◌∙◌, append_assoc, take-append-drop}
use Rattle.std.specs.Io.KnownBytes.{Appends, Keeps}
use Rattle.std.proofs.lemmas.List.{at_drop_more}
use Rattle.std.specs.List.{concat}
use Rattle.commands.specs.Writes.{AppendsFront, Writes}

pub both_written : (a b c : Option (List ℕ)) (xs ys : List ℕ) → Appends a b xs → Appends b c ys → Appends a c (xs ++ ys)
both_written None b c xs ys p q = tt
both_written (Some x) None c xs ys p q = absurd p
both_written (Some x) (Some y) None xs ys p q = absurd q
both_written (Some x) (Some y) (Some z) xs ys p q = q ∙ ap (λ l. l ++ ys) p ∙ append_assoc x xs ys

pub written_and_kept : (a b c : Option (List ℕ)) (xs : List ℕ) → Appends a b xs → Keeps b c → Appends a c xs
written_and_kept None b c xs p q = tt
written_and_kept (Some x) None c xs p q = absurd p
written_and_kept (Some x) (Some y) None xs p q = absurd q
written_and_kept (Some x) (Some y) (Some z) xs p q = q ∙ p

-- a front that a write of n bytes more made longer
pub longer : (text front rest : List ℕ) (n : ℕ) → text ≡ front ++ rest → text ≡ (front ++ take n rest) ++ drop n rest
longer text front rest n e = e ∙ ap (λ t. front ++ t) (sym (take-append-drop n rest)) ∙ sym (append_assoc front (take n rest) (drop n rest))

-- a front of the next text, behind what was written of the whole
pub later_front : (a b c : Option (List ℕ)) (text xs ys zs : List ℕ) → text ≡ xs ++ (ys ++ zs) → Appends a b xs → AppendsFront b c ys → AppendsFront a c text
later_front a b c text xs ys zs e p q =
    let (front, rest, split, written) = q in (
      xs ++ front,
      rest ++ zs,
      e ∙ ap (λ t. xs ++ (t ++ zs)) split ∙ ap (λ t. xs ++ t) (append_assoc front rest zs) ∙ sym (append_assoc xs front (rest ++ zs)),
      both_written a b c xs front p written,
    )

-- a call that failed, and wrote a front
pub failed : {T E : Type 0} (r : Result T E) (a b : Option (List ℕ)) (text : List ℕ) → IsErr r → AppendsFront a b text → Writes r a b text
failed (Ok x) a b text is p = cc
failed (Err e) a b text is p = p

-- the next of some pieces, and those behind it
pub next_piece : {A : Type 0} (text : A → List ℕ) (pieces : List A) (i : ℕ) (d : A) → i < length pieces
    → concat (map text (drop i pieces)) ≡ text (get_or pieces i d) ++ concat (map text (drop (i + 1) pieces))
next_piece text pieces i d within = at_drop_more (λ l. concat (map text l)) pieces i d within

-- Reading lines up to an `end`: what was read so far, and the lines that are left.
use Rattle.std.proofs.Common.{◌≡◌, ℕ, List, [], ◌∷◌, ◌++◌, Bool, true, false, cond, Option, None, Some, Result, Ok, Err, codes, refl, sym, ap, ◌∙◌, append_assoc}
use Rattle.std.specs.Borrow.{Bor}
use Rattle.std.specs.Prelude.{if◌then◌else◌}
use Rattle.std.proofs.lemmas.List.{append-nil}
use Rattle.certificate_text.specs.declared.fields.Unfit.{Unfit}
use Rattle.certificate_text.specs.declared.fields.Unfit.TheVariants as unfit
use Rattle.certificate_text.specs.Lines.{lines_of}
use Rattle.certificate_text.specs.Outcomes.{FailsIn, FailsAt, stopped}
use Rattle.certificate_text.specs.Reading.{same_text}
use Rattle.certificate_text.specs.Walking.{Read, ◌>>=◌, given, with_front, up_to_end}

abbrev step : {A : Type 0} → (List ℕ → Option A) → List ℕ → List (List ℕ) → Bool → Read (List A)
step read line ls last = if last then Ok ([], ls) else (given (read line) (line ∷ ls) ls >>= λ x. with_front (x.0 ∷ []) (up_to_end read ls))

front_twice : {A : Type 0} (front : List A) (a : A) (r : Read (List A)) → with_front front (with_front (a ∷ []) r) ≡ with_front (front ++ a ∷ []) r
front_twice front a (Ok x) = ap (λ xs. Ok (xs, x.1)) (sym (append_assoc front (a ∷ []) x.0))
front_twice front a (Err ls) = refl

opened : {A : Type 0} (read : List ℕ → Option A) (line : List ℕ) (rs ls : List (List ℕ)) (last : Bool) → rs ≡ line ∷ ls → same_text line (codes "end") ≡ last
    → up_to_end read rs ≡ step read line ls last
unfolding up_to_end
opened read line rs ls last e t = ap (up_to_end read) e ∙ ap (step read line ls) t

-- at the end
pub ended_at : {A : Type 0} (read : List ℕ → Option A) (front : List A) (line : List ℕ) (rs ls : List (List ℕ)) (whole : Read (List A))
    → rs ≡ line ∷ ls → same_text line (codes "end") ≡ true → with_front front (up_to_end read rs) ≡ whole → whole ≡ Ok (front, ls)
ended_at read front line rs ls whole e t so_far =
    sym so_far ∙ ap (with_front front) (opened read line rs ls true e t) ∙ ap (λ xs. Ok (xs, ls)) (append-nil front)

-- one line more
pub more_at : {A : Type 0} (read : List ℕ → Option A) (front : List A) (a : A) (line : List ℕ) (rs ls : List (List ℕ)) (whole : Read (List A))
    → rs ≡ line ∷ ls → same_text line (codes "end") ≡ false → read line ≡ Some a → with_front front (up_to_end read rs) ≡ whole
    → with_front (front ++ a ∷ []) (up_to_end read ls) ≡ whole
more_at read front a line rs ls whole e t found so_far =
    sym (front_twice front a (up_to_end read ls))
    ∙ ap (λ o. with_front front (given o (line ∷ ls) ls >>= λ x. with_front (x.0 ∷ []) (up_to_end read ls))) (sym found)
    ∙ ap (with_front front) (sym (opened read line rs ls false e t)) ∙ so_far

-- a line that gives nothing
pub stuck_at : {A : Type 0} (read : List ℕ → Option A) (front : List A) (line : List ℕ) (rs ls : List (List ℕ)) (whole : Read (List A))
    → rs ≡ line ∷ ls → same_text line (codes "end") ≡ false → read line ≡ None → with_front front (up_to_end read rs) ≡ whole → whole ≡ Err rs
stuck_at read front line rs ls whole e t none so_far =
    sym so_far ∙ ap (with_front front) (opened read line rs ls false e t)
    ∙ ap (λ o. with_front front (given o (line ∷ ls) ls >>= λ x. with_front (x.0 ∷ []) (up_to_end read ls))) none ∙ ap Err (sym e)

-- no line is left
pub missing_at : {A : Type 0} (read : List ℕ → Option A) (front : List A) (rs : List (List ℕ)) (whole : Read (List A))
    → rs ≡ [] → with_front front (up_to_end read rs) ≡ whole → whole ≡ Err rs
unfolding up_to_end
missing_at read front rs whole e so_far = sym so_far ∙ ap (λ ls. with_front front (up_to_end read ls)) e ∙ ap Err (sym e)

-- how reading stops at a line that gives nothing
pub fails_at : {A : Type 0} (read : List ℕ → Option A) (front : List A) (line : List ℕ) (rest : Bor (List ℕ)) (ls : List (List ℕ)) (whole : Read (List A)) (e : Unfit)
    → lines_of rest.now ≡ line ∷ ls → same_text line (codes "end") ≡ false → FailsIn e (read line) → with_front front (up_to_end read (lines_of rest.now)) ≡ whole
    → FailsAt (stopped rest e) whole
fails_at read front line rest ls whole unfit.Form e t none so_far = stuck_at read front line (lines_of rest.now) ls whole e t none so_far
fails_at read front line rest ls whole unfit.Memory e t none so_far = tt

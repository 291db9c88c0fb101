-- Texts of either format, which the first line tells apart: what reading a text says of texts.
use Rattle.std.proofs.Common.{◌≡◌, ℕ, List, [], ◌∷◌, ◌++◌, Bool, true, false, Ok, Err, refl, sym, ap, ◌∙◌, append_assoc}
use Rattle.std.proofs.lemmas.List.{append-nil}
use Rattle.kv_model.specs.Certificates.{Dump, Claim}
use Rattle.certificate_text.specs.Texts.{dump_head, text_lines}
use Rattle.certificate_text.specs.Reading.{same_text}
use Rattle.certificate_text.specs.Walking.{begins_first, read_in, text_read}
use Rattle.certificate_text.specs.Lines.{HasText, Begins, Stops}
use Rattle.certificate_text.proofs.WalkLaws.{Lines}
use Rattle.certificate_text.proofs.TextLaws.{read_takes, read_again, read_stops}

-- the first line of a text says its format
head_tells : (first : Bool) → same_text (dump_head first) (dump_head true) ≡ first
head_tells true = refl
head_tells false = refl

-- and what stands behind the first line says nothing of it
same_head : (before : Lines) (line : List ℕ) (after other : Lines) → begins_first (before ++ line ∷ other) ≡ begins_first (before ++ line ∷ after)
same_head [] line after other = refl
same_head (first ∷ before) line after other = refl

-- what was read has these very lines, in its format
pub text_takes : (ls : Lines) (d : Dump) (claims : List Claim) → text_read ls ≡ Ok (d, claims)
    → (ls ≡ text_lines (begins_first ls) d claims) × HasText (begins_first ls) d claims
text_takes ls d claims e = read_takes (begins_first ls) ls d claims e

-- and its lines are read again
pub text_again : (first : Bool) (d : Dump) (claims : List Claim) → HasText first d claims → text_read (text_lines first d claims) ≡ Ok (d, claims)
text_again first d claims h = ap (λ f. read_in f (text_lines first d claims)) (head_tells first) ∙ read_again first d claims h

stops_of : (before rest : Lines) → ((line : List ℕ) (after other : Lines) → rest ≡ line ∷ after → text_read (before ++ line ∷ other) ≡ Err (line ∷ other))
    → text_read (before ++ rest) ≡ Err rest → Stops before rest
stops_of before [] stays failed = λ whole.
    let fine = text_again whole.0 whole.1 whole.2 whole.3 in
    let bad : Ok (whole.1, whole.2) ≡ Err [] = sym fine ∙ ap text_read (whole.4 ∙ sym (append-nil before)) ∙ failed in
    cc bad
stops_of before (line ∷ after) stays failed = λ begins.
    let fine = text_again begins.0 begins.1 begins.2 begins.4 in
    let bad : Ok (begins.1, begins.2) ≡ Err (line ∷ begins.3) =
    sym fine ∙ ap text_read (begins.5 ∙ append_assoc before (line ∷ []) begins.3) ∙ stays line after begins.3 refl in
    cc bad

-- where reading stops, no text of either format goes on
pub text_stops : (ls rest : Lines) → text_read ls ≡ Err rest → (before : Lines) × (ls ≡ before ++ rest) × Begins before × Stops before rest
text_stops ls rest e =
    let at = read_stops (begins_first ls) ls rest e in (
      at.before,
      at.parts,
      at.begins,
      stops_of at.before rest
          (λ line after other h.
          let whole : ls ≡ at.before ++ line ∷ after = at.parts ∙ ap (λ xs. at.before ++ xs) h in
          ap (λ f. read_in f (at.before ++ line ∷ other)) (same_head at.before line after other ∙ ap begins_first (sym whole)) ∙ at.stays line after other h)
          (ap text_read (sym at.parts) ∙ e),
    )

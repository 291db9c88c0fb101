-- Reading a text: what it gives, the line that it names, and that texts are read.
use Rattle.std.proofs.Common.{◌≡◌, ℕ, ◌+◌, ◌-◌, List, length, Bool, Result, Ok, Err, IfOk, IfErr, refl, sym, ap, subst, ◌∙◌}
use Rattle.kv_model.specs.Certificates.{Dump, Claim}
use Rattle.certificate_text.specs.declared.reading.Unreadable.{Unreadable}
use Rattle.certificate_text.specs.declared.reading.Unreadable.TheVariants as unreadable
use Rattle.certificate_text.specs.declared.stop.Stop.{Stop}
use Rattle.certificate_text.specs.declared.stop.Stop.TheVariants as stop
use Rattle.certificate_text.specs.Outcomes.{IsEarly, IsToldAs, IsUnreadable, ReadsAll, ReadsBack}
use Rattle.certificate_text.specs.Lines.{lines_of, IsTextOf, IsFirstUnreadable}
use Rattle.certificate_text.specs.Texts.{AreInLimits}
use Rattle.certificate_text.specs.Walking.{Read, begins_first, text_read}
use Rattle.certificate_text.proofs.LinesLaws.{lines_of_text, text_of_lines, line_number}
use Rattle.certificate_text.proofs.FormatLaws.{text_takes, text_again, text_stops}

read_is : (text : List ℕ) (r : Dump × List Claim) → text_read (lines_of text) ≡ Ok r → IsTextOf text r.0 r.1 × AreInLimits r.0 r.1
read_is text r e =
    let found = text_takes (lines_of text) r.0 r.1 e in
    let first : Bool = begins_first (lines_of text) in
    ((first, found.1.1, text_of_lines first text r.0 r.1 found.0), found.1.0)

refused_at : (text : List ℕ) (rest : List (List ℕ)) (n : ℕ) → text_read (lines_of text) ≡ Err rest → n ≡ length (lines_of text) - length rest + 1
    → IsFirstUnreadable (lines_of text) n
refused_at text rest n e is =
    let at = text_stops (lines_of text) rest e in
    (at.0, rest, at.1, is ∙ line_number (lines_of text) at.0 rest at.1, at.2, at.3)

pub reads_text : (text : List ℕ) (d : Dump) (claims : List Claim) → AreInLimits d claims → IsTextOf text d claims → text_read (lines_of text) ≡ Ok (d, claims)
reads_text text d claims limits is = ap text_read (lines_of_text is.0 text d claims limits is.2) ∙ text_again is.0 d claims (limits, is.1)

back_ok : (text : List ℕ) (r : Dump × List Claim) (d : Dump) (claims : List Claim) → text_read (lines_of text) ≡ Ok r → AreInLimits d claims → IsTextOf text d claims
    → (r.0 ≡ d) × (r.1 ≡ claims)
back_ok text r d claims e limits is =
    let same : r ≡ (d, claims) = cc (sym e ∙ reads_text text d claims limits is) in
    (ap (λ p. p.0) same, ap (λ p. p.1) same)

back_err : (text : List ℕ) (rest : List (List ℕ)) (n : ℕ) (d : Dump) (claims : List Claim) → text_read (lines_of text) ≡ Err rest → AreInLimits d claims → IsTextOf text d claims
    → unreadable.Line n ≡ unreadable.Memory
back_err text rest n d claims e limits is =
    let bad : Err rest ≡ Ok (d, claims) = sym e ∙ reads_text text d claims limits is in
    cc bad

-- ---- as it is told

pub told_ok : (text : List ℕ) (made : Result (Dump × List Claim) Stop) (r : Result (Dump × List Claim) Unreadable)
    → ReadsAll (λ x. x) made (text_read (lines_of text)) → IsToldAs text made r
    → IfOk r (λ x. IsTextOf text x.0 x.1 × AreInLimits x.0 x.1)
told_ok text (Ok found) r reads told = rw told (read_is text found reads)
told_ok text (Err (stop.At rest)) r reads told = rw told tt
told_ok text (Err stop.Memory) r reads told = rw told tt

pub told_unreadable : (text : List ℕ) (made : Result (Dump × List Claim) Stop) (r : Result (Dump × List Claim) Unreadable)
    → ReadsAll (λ x. x) made (text_read (lines_of text)) → IsToldAs text made r → IfErr r (IsUnreadable text)
told_unreadable text (Ok found) r reads told = rw told tt
told_unreadable text (Err (stop.At rest)) r reads told = rw told (refused_at text (lines_of rest.now) _ reads refl)
told_unreadable text (Err stop.Memory) r reads told = rw told tt

pub told_whole : (text : List ℕ) (made : Result (Dump × List Claim) Stop) (r : Result (Dump × List Claim) Unreadable)
    → ReadsAll (λ x. x) made (text_read (lines_of text)) → IsToldAs text made r
    → (d : Dump) (claims : List Claim) → AreInLimits d claims → IsTextOf text d claims → ReadsBack r d claims
told_whole text (Ok found) r reads told d claims limits is = rw told (back_ok text found d claims reads limits is)
told_whole text (Err (stop.At rest)) r reads told d claims limits is =
    rw told (back_err text (lines_of rest.now) _ d claims reads limits is)
told_whole text (Err stop.Memory) r reads told d claims limits is = rw told refl

-- ---- before any memory is taken

pub early_past : {X Y Z : Type 0} (m : Read Y) (x : X) (r : Result Z Stop) → IsEarly m (Ok x) → IsEarly m r
early_past (Ok y) x r h = tt
early_past (Err ls) x r h = absurd h

pub told_early : (text : List ℕ) (made : Result (Dump × List Claim) Stop) (r : Result (Dump × List Claim) Unreadable) (m : Read (ℕ × ℕ))
    → IsEarly m made → IsToldAs text made r
    → (rest : List (List ℕ)) → m ≡ Err rest → r ≡ Err (unreadable.Line (length (lines_of text) - length rest + 1))
told_early text (Ok found) r m early told rest e = absurd (subst (λ (k : Read (ℕ × ℕ)). IsEarly k (Ok found)) e early)
told_early text (Err (stop.At s)) r m early told rest e =
    let same : lines_of s.now ≡ rest = subst (λ (k : Read (ℕ × ℕ)). IsEarly {X = Dump × List Claim} k (Err (stop.At s))) e early in
    told ∙ ap (λ ls. Err (unreadable.Line (length (lines_of text) - length ls + 1))) same
told_early text (Err stop.Memory) r m early told rest e = absurd (subst (λ (k : Read (ℕ × ℕ)). IsEarly {X = Dump × List Claim} k (Err stop.Memory)) e early)

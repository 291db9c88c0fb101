-- The lines of a text, and the text of lines.
use Rattle.std.proofs.Common.{◌≡◌, ℕ, ◌+◌, ◌-◌, ◌<◌, List, [], ◌∷◌, ◌++◌, length, map, Bool, true, false, cond, nat_eq, codes, refl, sym, ap, subst, ◌∙◌, append_assoc, inl, inr, arith}
use Rattle.std.specs.Fmt.{decimal}
use Rattle.std.specs.Prelude.{◌⊎◌}
use Rattle.std.specs.List.{AllByRecursion, slice_split, onto_first, join_with_byte}
use Rattle.std.proofs.lemmas.Bool.Decides.{nat_tests}
use Rattle.std.proofs.lemmas.List.{append-nil, length-append}
use Rattle.std.proofs.lemmas.List.Elements.{All-from_recursion}
use Rattle.std.proofs.lemmas.List.Splits.{slice_split_at, join_with_byte-slice_split}
use Rattle.kv_model.specs.declared.version.Version.{Version}
use Rattle.kv_model.specs.Certificates.{Dump, Claim}
use Rattle.certificate_text.specs.Lines.{is, lines_of, lines_of_parts, IsTextIn}
use Rattle.certificate_text.specs.Texts.{body_fields, need_fields, line_of, version_line, claim_line, number_line, written, dump_head, needs_head, dump_lines, needs_lines, text_lines, IsRevision, IsVersion, IsClaim, AreInLimits}
use Rattle.certificate_text.proofs.Base64.{IsAbove}
use Rattle.certificate_text.proofs.Cuts.{some_parts, lines_more}
use Rattle.certificate_text.proofs.LineLaws.{AreAbove, not_within, body_above, need_above, revision_above}

-- ---- lines have no line feed within

abbrev IsClear : List ℕ → Type 0
IsClear = AllByRecursion (λ b. is 10 b ≡ false)

clear_append : (xs ys : List ℕ) → IsClear xs → IsClear ys → IsClear (xs ++ ys)
clear_append [] ys h k = k
clear_append (x ∷ xs) ys h k = (h.0, clear_append xs ys h.1 k)

line_clear : (fields : List (List ℕ)) → AreAbove fields → IsClear (line_of fields)
line_clear [] h = tt
line_clear (x ∷ []) h = not_within 10 x (omega arith) h.0
line_clear (x ∷ y ∷ more) h = clear_append x (32 ∷ line_of (y ∷ more)) (not_within 10 x (omega arith) h.0) (refl, line_clear (y ∷ more) h.1)

versions_clear : (vs : List Version) → AllByRecursion IsVersion vs → AllByRecursion IsClear (map version_line vs)
versions_clear [] h = tt
versions_clear (v ∷ vs) h = (line_clear (body_fields v.rev v.key v.body) (body_above v.rev v.key v.body h.0.0 h.0.1 h.0.2), versions_clear vs h.1)

claims_clear : (claims : List Claim) → AllByRecursion IsClaim claims → AllByRecursion IsClear (map claim_line claims)
claims_clear [] h = tt
claims_clear (claim ∷ claims) h = (line_clear (need_fields claim.rev claim.need) (need_above claim.rev claim.need h.0.0 h.0.1), claims_clear claims h.1)

number_clear : (word : List ℕ) (n : ℕ) → IsAbove word → IsRevision n → IsClear (number_line word n)
number_clear word n above h = line_clear (word ∷ decimal n ∷ []) (above, (revision_above n h, tt))

both_clear : (xs ys : List (List ℕ)) → AllByRecursion IsClear xs → AllByRecursion IsClear ys → AllByRecursion IsClear (xs ++ ys)
both_clear [] ys h k = k
both_clear (x ∷ xs) ys h k = (h.0, both_clear xs ys h.1 k)

end_clear : IsClear (codes "end")
end_clear = (refl, (refl, (refl, tt)))

dump_head_clear : (first : Bool) → IsClear (dump_head first)
dump_head_clear true = (refl, (refl, (refl, (refl, (refl, (refl, tt))))))
dump_head_clear false = (refl, (refl, (refl, (refl, (refl, (refl, tt))))))

needs_head_clear : (first : Bool) → IsClear (needs_head first)
needs_head_clear true = (refl, (refl, (refl, (refl, (refl, (refl, (refl, tt)))))))
needs_head_clear false = (refl, (refl, (refl, (refl, (refl, (refl, (refl, tt)))))))

text_clear : (first : Bool) (d : Dump) (claims : List Claim) → AreInLimits d claims → AllByRecursion IsClear (text_lines first d claims)
text_clear first d claims h =
    both_clear (dump_lines first d) (needs_lines first claims) (
      dump_head_clear first,
      (
        number_clear (codes "floor") d.floor (omega arith, (omega arith, (omega arith, (omega arith, (omega arith, tt))))) h.floor,
        (
          number_clear (codes "revision") d.revision (omega arith, (omega arith, (omega arith, (omega arith, (omega arith, (omega arith, (omega arith, (omega arith, tt)))))))) h.revision,
          both_clear (map version_line d.versions) (codes "end" ∷ []) (versions_clear d.versions h.versions) (end_clear, tt),
        ),
      ),
    ) (
      needs_head_clear first,
      both_clear (map claim_line claims) (codes "end" ∷ []) (claims_clear claims h.needs) (end_clear, tt),
    )

-- ---- the lines of what was written

split_written : (ls : List (List ℕ)) → AllByRecursion IsClear ls → slice_split (is 10) (written ls) ≡ ls ++ [] ∷ []
split_written [] h = refl
split_written (line ∷ ls) h =
    ap (slice_split (is 10)) (append_assoc line (10 ∷ []) (written ls))
    ∙ slice_split_at (is 10) line 10 (written ls) (All-from_recursion _ line h.0) refl ∙ ap (λ parts. line ∷ parts) (split_written ls h.1)

lines_ended : (ls : List (List ℕ)) → lines_of_parts (ls ++ [] ∷ []) ≡ ls
lines_ended [] = refl
lines_ended (line ∷ ls) =
    let long = length-append ls ([] ∷ []) in
    lines_more line (ls ++ [] ∷ []) (omega (arith, long)) ∙ ap (λ rest. line ∷ rest) (lines_ended ls)

lines_last_end : (front : List (List ℕ)) → lines_of_parts (front ++ codes "end" ∷ []) ≡ front ++ codes "end" ∷ []
lines_last_end [] = refl
lines_last_end (line ∷ front) =
    let long = length-append front (codes "end" ∷ []) in
    lines_more line (front ++ codes "end" ∷ []) (omega (arith, long)) ∙ ap (λ rest. line ∷ rest) (lines_last_end front)

feed_by : (b : ℕ) (parts : List (List ℕ)) (c : Bool) → 0 < length parts
    → cond c ([] ∷ (parts ++ [] ∷ [])) (onto_first b (parts ++ [] ∷ [])) ≡ cond c ([] ∷ parts) (onto_first b parts) ++ [] ∷ []
feed_by b [] c h = absurd (omega (arith, h))
feed_by b (part ∷ parts) true h = refl
feed_by b (part ∷ parts) false h = refl

split_feed : (text : List ℕ) → slice_split (is 10) (text ++ 10 ∷ []) ≡ slice_split (is 10) text ++ [] ∷ []
split_feed [] = refl
split_feed (b ∷ bs) =
    ap (λ parts. cond (is 10 b) ([] ∷ parts) (onto_first b parts)) (split_feed bs)
    ∙ feed_by b (slice_split (is 10) bs) (is 10 b) (some_parts 10 bs)

abbrev front_of : Bool → Dump → List Claim → List (List ℕ)
front_of first d claims = dump_lines first d ++ needs_head first ∷ map claim_line claims

last_is_end : (first : Bool) (d : Dump) (claims : List Claim) → text_lines first d claims ≡ front_of first d claims ++ codes "end" ∷ []
last_is_end first d claims = sym (append_assoc (dump_lines first d) (needs_head first ∷ map claim_line claims) (codes "end" ∷ []))

pub lines_of_text : (first : Bool) (text : List ℕ) (d : Dump) (claims : List Claim) → AreInLimits d claims → IsTextIn first text d claims
    → lines_of text ≡ text_lines first d claims
lines_of_text first text d claims h (inl e) =
    ap lines_of e ∙ ap lines_of_parts (split_written (text_lines first d claims) (text_clear first d claims h)) ∙ lines_ended (text_lines first d claims)
lines_of_text first text d claims h (inr e) =
    let parts : slice_split (is 10) text ++ [] ∷ [] ≡ text_lines first d claims ++ [] ∷ [] =
    sym (split_feed text) ∙ ap (slice_split (is 10)) e ∙ split_written (text_lines first d claims) (text_clear first d claims h) in
    let same : slice_split (is 10) text ≡ text_lines first d claims =
    sym (lines_ended (slice_split (is 10) text)) ∙ ap lines_of_parts parts ∙ lines_ended (text_lines first d claims) in
    ap lines_of_parts (same ∙ last_is_end first d claims) ∙ lines_last_end (front_of first d claims) ∙ sym (last_is_end first d claims)

-- ---- the text that lines are of

abbrev IsJoined : List ℕ → List (List ℕ) → Type 0
IsJoined text ls = (text ≡ written ls) ⊎ (text ++ 10 ∷ [] ≡ written ls)

one_part : (part : List ℕ) (b : Bool) → nat_eq (length part) 0 ≡ b → IsJoined part (cond b [] (part ∷ []))
one_part [] true e = inl refl
one_part (x ∷ xs) true e = absurd (let none : length (x ∷ xs) ≡ 0 = grind (arith, nat_tests) in omega (arith, none))
one_part part false e = inr (sym (append-nil (part ++ 10 ∷ [])))

join_step : (part joined : List ℕ) (ls : List (List ℕ)) → IsJoined joined ls → IsJoined (part ++ 10 ∷ joined) (part ∷ ls)
join_step part joined ls (inl e) = inl (ap (λ rest. part ++ 10 ∷ rest) e ∙ sym (append_assoc part (10 ∷ []) (written ls)))
join_step part joined ls (inr e) =
    inr (append_assoc part (10 ∷ joined) (10 ∷ []) ∙ ap (λ rest. part ++ 10 ∷ rest) e ∙ sym (append_assoc part (10 ∷ []) (written ls)))

parts_joined : (part : List ℕ) (parts : List (List ℕ)) → IsJoined (join_with_byte 10 (part ∷ parts)) (lines_of_parts (part ∷ parts))
parts_joined part [] = one_part part (nat_eq (length part) 0) refl
parts_joined part (next ∷ parts) = join_step part (join_with_byte 10 (next ∷ parts)) (lines_of_parts (next ∷ parts)) (parts_joined next parts)

all_joined : (parts : List (List ℕ)) → 0 < length parts → IsJoined (join_with_byte 10 parts) (lines_of_parts parts)
all_joined [] h = absurd (omega (arith, h))
all_joined (part ∷ parts) h = parts_joined part parts

pub text_of_lines : (first : Bool) (text : List ℕ) (d : Dump) (claims : List Claim) → lines_of text ≡ text_lines first d claims → IsTextIn first text d claims
text_of_lines first text d claims e =
    subst (λ ls. IsJoined text ls) e
    (subst (λ t. IsJoined t (lines_of text)) (join_with_byte-slice_split 10 text) (all_joined (slice_split (is 10) text) (some_parts 10 text)))

-- ---- the number of a line

pub line_number : (ls before rest : List (List ℕ)) → ls ≡ before ++ rest → length ls - length rest + 1 ≡ length before + 1
line_number ls before rest e =
    let long : length ls ≡ length before + length rest = ap length e ∙ length-append before rest in
    omega (arith, long)

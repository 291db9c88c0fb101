-- Texts cut at a byte: the parts of lines and fields, and what they are parts of.
use Rattle.std.proofs.Common.{◌≡◌, ℕ, suc, ◌+◌, ◌-◌, ◌<◌, ◌≤◌, List, [], ◌∷◌, ◌++◌, length, take, drop, get_or, false, cond, nat_eq, None, refl, sym, ap, subst, ◌∙◌, arith}
use Rattle.std.specs.Prelude.{◌⊎◌}
use Rattle.std.specs.List.{AllByRecursion, slice_split, join_with_byte, position_or_len}
use Rattle.std.proofs.lemmas.Bool.Decides.{nat_tests}
use Rattle.std.proofs.lemmas.List.{take_all, length-drop}
use Rattle.std.proofs.lemmas.List.Elements.{All-from_recursion}
use Rattle.std.proofs.lemmas.List.Splits.{slice_split_first, slice_split_none, length-slice_split, join_with_byte-slice_split}
use Rattle.std.proofs.lemmas.List.Sums.{position_or_len_is}
use Rattle.certificate_text.specs.Lines.{is, lines_of, lines_of_parts}
use Rattle.certificate_text.specs.Reading.{end_at}

-- ---- the first byte of a kind

pub cut_found : (at : ℕ) (text : List ℕ) (i : ℕ) → i < length text → ((k : ℕ) → k < i → is at (get_or text k 0) ≡ false) → get_or text i 0 ≡ at
    → slice_split (is at) text ≡ take i text ∷ slice_split (is at) (take (length text - (i + 1)) (drop (i + 1) text))
cut_found at text i h before here =
    let place : position_or_len (is at) text ≡ i = position_or_len_is (is at) text i 0 (omega (arith, h)) before (λ _. grind (arith, nat_tests, here)) in
    subst (λ n. slice_split (is at) text ≡ take n text ∷ slice_split (is at) (drop (n + 1) text)) place
    (slice_split_first (is at) text 0 (subst (λ n. n < length text) (sym place) h))
    ∙ ap (λ rest. take i text ∷ slice_split (is at) rest) (sym (take_all (length text - (i + 1)) (drop (i + 1) text) (omega (arith, length-drop (i + 1) text))))

each : (at : ℕ) (text : List ℕ) → ((k : ℕ) → k < length text → is at (get_or text k 0) ≡ false) → AllByRecursion (λ x. is at x ≡ false) text
each at [] before = tt
each at (b ∷ bs) before = (before 0 (omega arith), each at bs (λ k h. before (suc k) (omega (arith, h))))

pub cut_none : (at : ℕ) (text : List ℕ) → ((k : ℕ) → k < length text → is at (get_or text k 0) ≡ false) → slice_split (is at) text ≡ text ∷ []
cut_none at text before = slice_split_none (is at) text (All-from_recursion _ text (each at text before))

-- a text has at least one part
pub some_parts : (at : ℕ) (text : List ℕ) → 0 < length (slice_split (is at) text)
some_parts at text = let counted = length-slice_split (is at) text in omega (arith, counted)

no_end_of : (parts : List (List ℕ)) → 0 < length parts → end_at parts ≡ None
unfolding end_at
no_end_of [] h = absurd (omega (arith, h))
no_end_of (part ∷ parts) h = refl

-- so behind a cut something is left
pub no_end : (at : ℕ) (text : List ℕ) → end_at (slice_split (is at) text) ≡ None
no_end at text = no_end_of (slice_split (is at) text) (some_parts at text)

-- ---- lines

pub lines_more : (line : List ℕ) (parts : List (List ℕ)) → 0 < length parts → lines_of_parts (line ∷ parts) ≡ line ∷ lines_of_parts parts
lines_more line [] h = absurd (omega (arith, h))
lines_more line (part ∷ parts) h = refl

-- a line with a line feed behind it, and the lines of what follows
pub lines_step : (text line rest : List ℕ) → slice_split (is 10) text ≡ line ∷ slice_split (is 10) rest → lines_of text ≡ line ∷ lines_of rest
lines_step text line rest e = ap lines_of_parts e ∙ lines_more line (slice_split (is 10) rest) (some_parts 10 rest)

-- a text without a line feed is one line
pub lines_last : (text line : List ℕ) → 0 < length text → slice_split (is 10) text ≡ line ∷ [] → lines_of text ≡ line ∷ []
lines_last text line some e =
    let same : line ≡ text = ap (join_with_byte 10) (sym e) ∙ join_with_byte-slice_split 10 text in
    let filled : nat_eq (length line) 0 ≡ false = grind (arith, nat_tests, some, ap length same) in
    ap lines_of_parts e ∙ ap (λ b. cond b [] (line ∷ [])) filled

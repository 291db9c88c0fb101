-- A script line by line, and a line word by word.
use Rattle.std.proofs.Common.{◌≡◌, ℕ, ◌<◌, ◌≤◌, List, [], ◌∷◌, length, false, nat_eq, cond, refl, sym, ap, ◌∙◌, arith, get_or}
use Rattle.std.specs.List.{slice_split, position_or_len, before_first, after_first}
use Rattle.std.specs.Str.Lines.{lines, lines_of_parts, strip_carriage_return}
use Rattle.std.proofs.lemmas.List.{take_all}
use Rattle.std.proofs.lemmas.Bool.Decides.{nat_tests}
use Rattle.std.proofs.lemmas.List.Splits.{slice_split_first, slice_split_none, length-slice_split}
use Rattle.std.proofs.lemmas.List.Sums.{fails_before_first, position_or_len_is}
use Rattle.commands.specs.Script.{is}

pub lines_of_more : (x : List ℕ) (parts : List (List ℕ)) → 0 < length parts → lines_of_parts (x ∷ parts) ≡ strip_carriage_return x ∷ lines_of_parts parts
lines_of_more x [] h = absurd (omega (arith, h))
lines_of_more x (y ∷ more) h = refl

-- a text with a line feed: its first line, and the lines of what follows
pub lines_step : (text : List ℕ) → position_or_len (is 10) text < length text
    → lines text ≡ strip_carriage_return (before_first (is 10) text) ∷ lines (after_first (is 10) text)
lines_step text h =
    let counted = length-slice_split (is 10) (after_first (is 10) text) in
    let some : 0 < length (slice_split (is 10) (after_first (is 10) text)) = omega (arith, counted) in
    ap lines_of_parts (slice_split_first (is 10) text 0 h) ∙ lines_of_more _ _ some

-- a text without a line feed is one line, with a carriage return at its end
pub lines_last : (text : List ℕ) → 0 < length text → length text ≤ position_or_len (is 10) text → lines text ≡ text ∷ []
lines_last text some none =
    let whole : slice_split (is 10) text ≡ text ∷ [] =
    slice_split_none (is 10) text (λ k d h. fails_before_first (is 10) text k d (omega (arith, none, h))) in
    let filled : nat_eq (length text) 0 ≡ false = grind (arith, nat_tests, some) in
    ap lines_of_parts whole ∙ ap (λ b. cond b [] (text ∷ [])) filled

pub found_at : (at : ℕ) (text : List ℕ) (i : ℕ) → i < length text → ((k : ℕ) → k < i → is at (get_or text k 0) ≡ false) → get_or text i 0 ≡ at
    → i ≡ position_or_len (is at) text
found_at at text i h before here =
    sym (position_or_len_is (is at) text i 0 (omega (arith, h)) before (λ _. grind (arith, nat_tests, here)))

pub found_none : (at : ℕ) (text : List ℕ) → ((k : ℕ) → k < length text → is at (get_or text k 0) ≡ false) → length text ≡ position_or_len (is at) text
found_none at text before = sym (position_or_len_is (is at) text (length text) 0 (omega arith) before (λ h. absurd (omega (arith, h))))

-- such a line has no line feed before it
pub whole_line : (text : List ℕ) → length text ≤ position_or_len (is 10) text → before_first (is 10) text ≡ text
whole_line text none = take_all _ text none

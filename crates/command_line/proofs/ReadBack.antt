-- What is written down of events is read as those events.
use Rattle.std.proofs.Common.{◌≡◌, ℕ, ◌+◌, ◌-◌, ◌^◌, ◌<◌, ◌≤◌, ◌≢◌, List, [], ◌∷◌, ◌++◌, map, length, get_or, get_or-append-add, take, drop, All, Bool, true, false, cond, not, ◌||◌, nat_eq, nat_lt, None, Some, option_and_then, codes, decimal, refl, sym, ap, ◌∙◌, append_assoc, arith}
use Rattle.std.specs.Char.{is_ascii_digit}
use Rattle.std.specs.Cmp.Lexicographic.{pointwise}
use Rattle.std.specs.List.{list_all, concat, slice_split, position_or_len, before_first, after_first}
use Rattle.std.specs.Str.Lines.{lines, lines_of_parts, strip_carriage_return}
use Rattle.std.proofs.Math.ListN.{get_or-append}
use Rattle.std.proofs.Math.Seq.{take-append_seam, drop-append-add, get_or-append_seam}
use Rattle.std.proofs.lemmas.List.{length-append}
use Rattle.std.proofs.lemmas.Bool.{not-true}
use Rattle.std.proofs.lemmas.Bool.Decides.{nat_tests}
use Rattle.std.proofs.lemmas.Fmt.{decimal_nonempty, digits_decimal, digits_value-decimal, length-decimal-le}
use Rattle.std.proofs.lemmas.List.Elements.{All-append, All-head, All-map, All-tail, All-weaker}
use Rattle.std.proofs.lemmas.List.Splits.{slice_split_at, length-slice_split}
use Rattle.std.proofs.lemmas.List.Sums.{AllPass-from_list_all}
use Rattle.kv_model.specs.Wire.{WireEvent}
use Rattle.gateway_read.proofs.Integers.{own, read_on, some_digit}
use Rattle.recording.specs.Lines.{within_line, line_of}
use Rattle.commands.specs.Script.{longest_line, is, if_unsigned_64, number_of, event_of, line_events, event_by, event_with, event_numbered, post_of, rest_after}
use Rattle.commands.proofs.Lines.{found_at, lines_of_more}
use Rattle.command_line.specs.ReadBack.{IsOfPath, IsRecordable, as_read, IsEachReadBack, AreReadBack}

-- ---- a text without such a byte

abbrev Avoids : ℕ → List ℕ → Type 0
Avoids at text = All (λ b. is at b ≡ false) text

both_avoid : (at : ℕ) (xs ys : List ℕ) → Avoids at xs → Avoids at ys → Avoids at (xs ++ ys)
both_avoid at = All-append (λ b. is at b ≡ false)

other : (at b : ℕ) → b ≢ at → is at b ≡ false
other at b h = grind (arith, nat_tests, h)

-- a word that is written out
word_avoids : (at : ℕ) (word : List ℕ) → list_all (λ b. not (is at b)) word ≡ true → Avoids at word
word_avoids at word h = All-weaker (λ b. not (is at b) ≡ true) (λ b. is at b ≡ false) (λ b. not-true (is at b)) word (AllPass-from_list_all (λ b. not (is at b)) word h)

digits_avoid : (at n : ℕ) → at < 48 → n < 2 ^ 64 → Avoids at (decimal n)
digits_avoid at n low h = All-weaker (λ b. is_ascii_digit b ≡ true) (λ b. is at b ≡ false) (λ b e. grind (arith, nat_tests, low, e)) (decimal n) (AllPass-from_list_all is_ascii_digit (decimal n) (digits_decimal own n h))

path_avoids : (at : ℕ) (path : List ℕ) → ((b : ℕ) → IsOfPath b → b ≢ at) → All IsOfPath path → Avoids at path
path_avoids at path leads h = All-weaker IsOfPath (λ b. is at b ≡ false) (λ b p. other at b (leads b p)) path h

byte_within : (b : ℕ) → (is 10 (within_line b) ≡ false) × (is 13 (within_line b) ≡ false)
byte_within b = by (is 10 b) (is 13 b) refl refl
  where
    by : (c d : Bool) → is 10 b ≡ c → is 13 b ≡ d → (is 10 (cond (c || d) 32 b) ≡ false) × (is 13 (cond (c || d) 32 b) ≡ false)
    by true d e f = (refl, refl)
    by false true e f = (refl, refl)
    by false false e f = (e, f)

-- a body, and the space before it
body_avoids : (at : ℕ) → list_all (λ b. not (is at b)) (32 ∷ []) ≡ true → ((b : ℕ) → is at (within_line b) ≡ false) → (body : List ℕ) → Avoids at (32 ∷ map within_line body)
body_avoids at space h body =
    both_avoid at (32 ∷ []) (map within_line body) (word_avoids at (32 ∷ []) space) (All-map (λ b. is at b ≡ false) within_line body (λ k d l. h (get_or body k d)))

-- ---- a text that is cut at the first such byte

abbrev IsCutBehind : ℕ → List ℕ → List ℕ → Type 0
IsCutBehind at word rest = length word ≡ position_or_len (is at) (word ++ at ∷ rest)

cut_behind : (at : ℕ) (word rest : List ℕ) → Avoids at word → IsCutBehind at word rest
cut_behind at word rest h =
    let whole = length-append word (at ∷ rest) in
    found_at at (word ++ at ∷ rest) (length word) (omega (arith, whole)) (λ k l. ap (is at) (get_or-append word (at ∷ rest) 0 k l) ∙ h k 0 l) (get_or-append_seam word at rest 0)

before_cut : (at : ℕ) (word rest : List ℕ) → IsCutBehind at word rest → before_first (is at) (word ++ at ∷ rest) ≡ word
before_cut at word rest cut = ap (λ n. take n (word ++ at ∷ rest)) (sym cut) ∙ take-append_seam word (at ∷ rest)

after_cut : (at : ℕ) (word rest : List ℕ) → IsCutBehind at word rest → after_first (is at) (word ++ at ∷ rest) ≡ rest
after_cut at word rest cut = ap (λ n. drop (n + 1) (word ++ at ∷ rest)) (sym cut) ∙ drop-append-add word (at ∷ rest) 1

-- ---- the line of an event, without its end

abbrev text_of : WireEvent → List ℕ
text_of (WireEvent.moment n) = codes "AT " ++ decimal n
text_of (WireEvent.post path body) = codes "POST " ++ (path ++ 32 ∷ map within_line body)
text_of (WireEvent.deliver n) = codes "DELIVER " ++ decimal n
text_of (WireEvent.close n) = codes "CLOSE " ++ decimal n
text_of WireEvent.expire = codes "EXPIRE"
text_of WireEvent.trim = codes "TRIM"
text_of WireEvent.certify = codes "CERTIFY"

ended : (e : WireEvent) → line_of e ≡ text_of e ++ 10 ∷ []
ended (WireEvent.moment n) = refl
ended (WireEvent.post path body) = refl
ended (WireEvent.deliver n) = refl
ended (WireEvent.close n) = refl
ended WireEvent.expire = refl
ended WireEvent.trim = refl
ended WireEvent.certify = refl

numbered_avoids : (word : List ℕ) (n : ℕ) → list_all (λ b. not (is 10 b)) word ≡ true → n < 2 ^ 64 → Avoids 10 (word ++ decimal n)
numbered_avoids word n h small = both_avoid 10 word (decimal n) (word_avoids 10 word h) (digits_avoid 10 n (omega arith) small)

-- no line feed stands within it
text_avoids : (e : WireEvent) → IsRecordable e → Avoids 10 (text_of e)
text_avoids (WireEvent.moment n) h = numbered_avoids (codes "AT ") n refl h
text_avoids (WireEvent.post path body) h =
    let body_too = body_avoids 10 refl (λ b. (byte_within b).0) body in
    let rest = both_avoid 10 path (32 ∷ map within_line body) (path_avoids 10 path (λ b p. p.1) h.0) body_too in
    both_avoid 10 (codes "POST ") (path ++ 32 ∷ map within_line body) (word_avoids 10 (codes "POST ") refl) rest
text_avoids (WireEvent.deliver n) h = numbered_avoids (codes "DELIVER ") n refl h
text_avoids (WireEvent.close n) h = numbered_avoids (codes "CLOSE ") n refl h
text_avoids WireEvent.expire h = word_avoids 10 (codes "EXPIRE") refl
text_avoids WireEvent.trim h = word_avoids 10 (codes "TRIM") refl
text_avoids WireEvent.certify h = word_avoids 10 (codes "CERTIFY") refl

-- and no carriage return at its end
kept_behind : (front rest : List ℕ) → 0 < length rest → Avoids 13 rest → strip_carriage_return (front ++ rest) ≡ front ++ rest
kept_behind front rest some h =
    let line = front ++ rest in
    let whole = length-append front rest in
    let place : length line - 1 ≡ length front + (length rest - 1) = omega (arith, whole, some) in
    ap (λ c. cond c (take (length line - 1) line) line) (ap (λ i. is 13 (get_or line i 0)) place ∙ ap (is 13) (get_or-append-add front rest (length rest - 1) 0) ∙ h (length rest - 1) 0 (omega (arith, some)))

text_kept : (e : WireEvent) → IsRecordable e → strip_carriage_return (text_of e) ≡ text_of e
text_kept (WireEvent.moment n) h = kept_behind (codes "AT ") (decimal n) (decimal_nonempty n h) (digits_avoid 13 n (omega arith) h)
text_kept (WireEvent.post path body) h = kept_behind (codes "POST " ++ path) (32 ∷ map within_line body) (omega arith) (body_avoids 13 refl (λ b. (byte_within b).1) body)
text_kept (WireEvent.deliver n) h = kept_behind (codes "DELIVER ") (decimal n) (decimal_nonempty n h) (digits_avoid 13 n (omega arith) h)
text_kept (WireEvent.close n) h = kept_behind (codes "CLOSE ") (decimal n) (decimal_nonempty n h) (digits_avoid 13 n (omega arith) h)
text_kept WireEvent.expire h = refl
text_kept WireEvent.trim h = refl
text_kept WireEvent.certify h = refl

-- ---- the event of a line

-- a number of 64 bits is read from its digits
number_back : (n : ℕ) → n < 2 ^ 64 → number_of (decimal n) ≡ Some n
number_back n h =
    let digits = (some_digit (decimal n)).1 (digits_decimal own n h, decimal_nonempty n h) in
    let fits : nat_lt n (2 ^ 64) ≡ true = grind (arith, nat_tests, h) in
    ap (λ b. option_and_then if_unsigned_64 (cond b (Some (read_on 0 (decimal n))) None)) digits
    ∙ ap if_unsigned_64 (digits_value-decimal own n h) ∙ ap (λ b. cond b (Some n) None) fits

-- a line with a space is read by the word before it and the text after it
read_by : (word rest : List ℕ) → length word + length rest < longest_line → IsCutBehind 32 word rest → event_of (word ++ 32 ∷ rest) ≡ event_with word rest
read_by word rest short cut =
    let line = word ++ 32 ∷ rest in
    let whole = length-append word (32 ∷ rest) in
    let before = before_cut 32 word rest cut in
    let after = after_cut 32 word rest cut in
    let fits : nat_lt longest_line (length line) ≡ false = grind (arith, nat_tests, short, whole) in
    let there : nat_lt (position_or_len (is 32) line) (length line) ≡ true = grind (arith, nat_tests, cut, whole) in
    ap (λ b. cond b None (event_by (before_first (is 32) line) (rest_after 32 line))) fits
    ∙ ap (λ b. event_by (before_first (is 32) line) (cond b (Some (after_first (is 32) line)) None)) there
    ∙ (λ i. event_with (before i) (after i))

numbered_back : (word : List ℕ) (n : ℕ) → length word ≤ 10 → IsCutBehind 32 word (decimal n) → pointwise nat_eq word (codes "POST") ≡ false → n < 2 ^ 64
    → event_of (word ++ 32 ∷ decimal n) ≡ event_numbered word n
numbered_back word n short cut is_other small =
    let digits = length-decimal-le 20 n (omega arith) (omega (arith, small)) small in
    read_by word (decimal n) (omega (arith, short, digits)) cut
    ∙ ap (λ b. cond b (Some (post_of (decimal n))) (option_and_then (event_numbered word) (number_of (decimal n)))) is_other
    ∙ ap (option_and_then (event_numbered word)) (number_back n small)

post_back : (path rest : List ℕ) → All IsOfPath path → post_of (path ++ 32 ∷ rest) ≡ WireEvent.post path rest
post_back path rest h =
    let cut = cut_behind 32 path rest (path_avoids 32 path (λ b p. p.0) h) in
    let before = before_cut 32 path rest cut in
    let after = after_cut 32 path rest cut in
    λ i. WireEvent.post (before i) (after i)

text_back : (e : WireEvent) → IsRecordable e → event_of (text_of e) ≡ Some (as_read e)
text_back (WireEvent.moment n) h = numbered_back (codes "AT") n (omega arith) refl refl h
text_back (WireEvent.post path body) h =
    let rest = path ++ 32 ∷ map within_line body in
    let whole = length-append rest (10 ∷ []) in
    read_by (codes "POST") rest (omega (arith, whole, h.1)) refl ∙ ap Some (post_back path (map within_line body) h.0)
text_back (WireEvent.deliver n) h = numbered_back (codes "DELIVER") n (omega arith) refl refl h
text_back (WireEvent.close n) h = numbered_back (codes "CLOSE") n (omega arith) refl refl h
text_back WireEvent.expire h = refl
text_back WireEvent.trim h = refl
text_back WireEvent.certify h = refl

pub each_read_back : IsEachReadBack
each_read_back e h =
    let cut = cut_behind 10 (text_of e) [] (text_avoids e h) in
    ap (λ t. event_of (before_first (is 10) t)) (ended e) ∙ ap event_of (before_cut 10 (text_of e) [] cut) ∙ text_back e h

-- ---- the lines of a text

-- a line with its end, and the lines of what follows
line_first : (line rest : List ℕ) → Avoids 10 line → strip_carriage_return line ≡ line → lines (line ++ 10 ∷ rest) ≡ line ∷ lines rest
line_first line rest feedless kept =
    let counted = length-slice_split (is 10) rest in
    let some : 0 < length (slice_split (is 10) rest) = omega (arith, counted) in
    ap lines_of_parts (slice_split_at (is 10) line 10 rest feedless refl)
    ∙ lines_of_more line (slice_split (is 10) rest) some ∙ ap (λ l. l ∷ lines rest) kept

pub read_back : AreReadBack
read_back [] rest h = refl
read_back (e ∷ events) rest h =
    let first = All-head IsRecordable e events h in
    let here = text_back e first in
    let later = read_back events rest (All-tail IsRecordable e events h) in
    let text = concat (map line_of events) in
    ap (λ t. line_events ((t ++ text) ++ rest)) (ended e)
    ∙ ap line_events (append_assoc (text_of e ++ 10 ∷ []) text rest ∙ append_assoc (text_of e) (10 ∷ []) (text ++ rest))
    ∙ ap (map event_of) (line_first (text_of e) (text ++ rest) (text_avoids e first) (text_kept e first))
    ∙ (λ i. here i ∷ later i)

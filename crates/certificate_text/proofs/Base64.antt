-- Bytes in base64: which text bytes are read from.
use Rattle.std.proofs.Common.{◌≡◌, ℕ, ◌+◌, ◌*◌, ◌/◌, ◌%◌, ◌<◌, zero, suc, List, [], ◌∷◌, ◌++◌, length, get_or, true, cond, nat_lt, None, Some, option_and_then, Result, Ok, Err, IfOk, IfErr, Vec, Global, refl, sym, ap, subst, ◌∙◌, arith}
use Rattle.std.specs.Prelude.{replicate}
use Rattle.std.specs.List.{list_all, AllByRecursion}
use Rattle.std.specs.Result.{result_ok}
use Rattle.std.proofs.lemmas.Bool.Decides.{nat_tests}
use Rattle.std.proofs.lemmas.List.Sums.{AllPass-from_list_all}
use Rattle.std.proofs.lemmas.Option.{cond_some}
use Rattle.std.proofs.lemmas.Bool.{and_parts, and_from}
use Rattle.base64.specs.Engines.{standard}
use Rattle.base64.specs.GeneralPurpose.{decode_of, decoded_of, encode_of, IsBytes, IsStrict, IsDecodeFailure}
use Rattle.base64.specs.Rfc4648.{encode_symbols, padding_len}
use Rattle.base64.specs.declared.decode.DecodeError.{DecodeError}
use Rattle.base64.specs.declared.decode.DecodeAllocError.{DecodeAllocError}
use Rattle.base64.specs.declared.decode.DecodeAllocError.TheVariants as failure
use Rattle.base64.proofs.EngineFacts.{IsAscii-encode_of, decode_of_strict, decode_of-encode_of}
use Rattle.certificate_text.specs.declared.fields.Unfit.{Unfit}
use Rattle.certificate_text.specs.declared.fields.Unfit.TheVariants as unfit
use Rattle.certificate_text.specs.Outcomes.{FailsIn, IsDecoded}
use Rattle.certificate_text.specs.Texts.{base64_text, bytes_field}
use Rattle.certificate_text.specs.Reading.{is_byte, if_bytes, decoded, bytes_of}
use Rattle.certificate_text.proofs.Digits.{then_some}

-- ---- bytes

pub all_bytes : (bs : List ℕ) → IsBytes bs → list_all is_byte bs ≡ true
all_bytes [] h = refl
all_bytes (b ∷ bs) h = and_from _ _ (let small = h 0 in grind (arith, nat_tests, small)) (all_bytes bs (λ i. h (suc i)))

pub are_bytes : (bs : List ℕ) → list_all is_byte bs ≡ true → IsBytes bs
are_bytes [] h i = omega arith
are_bytes (b ∷ bs) h zero = let small = (and_parts (is_byte b) _ h).0 in grind (arith, nat_tests, small)
are_bytes (b ∷ bs) h (suc i) = are_bytes bs (and_parts (is_byte b) _ h).1 i

pub if_bytes_same : (bs : List ℕ) → IsBytes bs → if_bytes bs ≡ Some bs
if_bytes_same bs h = ap (λ b. cond b (Some bs) None) (all_bytes bs h)

if_bytes_some : (bs cs : List ℕ) → if_bytes bs ≡ Some cs → IsBytes bs × (bs ≡ cs)
if_bytes_some bs cs e = let found = cond_some _ _ cs e in (are_bytes bs found.0, found.1)

ok_of : {A E : Type 0} (r : Result A E) (x : A) → result_ok r ≡ Some x → r ≡ Ok x
ok_of (Ok y) x e = ap Ok (cc e)
ok_of (Err f) x e = cc e

strict : IsStrict standard
strict = (refl, refl)

-- ---- symbols

-- bytes are read from their base64 alone
pub decoded_read : (symbols bytes : List ℕ) → decoded symbols ≡ Some bytes → (symbols ≡ base64_text bytes) × IsBytes bytes
unfolding decoded decoded_of base64_text
decoded_read symbols bytes e =
    let found = then_some if_bytes (option_and_then (decoded_of standard) (if_bytes symbols)) bytes e in
    let inner = then_some (decoded_of standard) (if_bytes symbols) found.0 found.1 in
    let outer = if_bytes_some found.0 bytes found.2 in
    let given = if_bytes_some symbols inner.0 inner.1 in
    let ok : decode_of standard symbols ≡ Ok found.0 = ok_of _ _ (subst (λ s. result_ok (decode_of standard s) ≡ Some found.0) (sym given.1) inner.2) in
    (decode_of_strict standard symbols found.0 strict given.0 ok ∙ ap (encode_of standard) outer.1, subst IsBytes outer.1 outer.0)

abbrev table : List ℕ
table = standard.encode_table

-- above the space
abbrev pub IsAbove : List ℕ → Type 0
IsAbove = AllByRecursion (λ b. 32 < b)

pub above_append : (xs ys : List ℕ) → IsAbove xs → IsAbove ys → IsAbove (xs ++ ys)
above_append [] ys h k = k
above_append (x ∷ xs) ys h k = (h.0, above_append xs ys h.1 k)

symbol : (i : ℕ) → i < 64 → 32 < get_or table i 0
symbol i h =
    let pass = AllPass-from_list_all (nat_lt 32) table refl i 0 h in
    grind (arith, nat_tests, pass)

symbols_above : (bs : List ℕ) → IsBytes bs → IsAbove (encode_symbols table bs)
unfolding encode_symbols
symbols_above [] h = tt
symbols_above (a ∷ []) h = (symbol (a / 4) (omega (arith, h 0)), (symbol (a % 4 * 16) (omega arith), tt))
symbols_above (a ∷ b ∷ []) h = (symbol (a / 4) (omega (arith, h 0)), (symbol (a % 4 * 16 + b / 16) (omega (arith, h 1)), (symbol (b % 16 * 4) (omega arith), tt)))
symbols_above (a ∷ b ∷ c ∷ bs) h = (
  symbol (a / 4) (omega (arith, h 0)),
  (
    symbol (a % 4 * 16 + b / 16) (omega (arith, h 1)),
    (symbol (b % 16 * 4 + c / 64) (omega (arith, h 2)), (symbol (c % 64) (omega arith), symbols_above bs (λ i. h (suc (suc (suc i)))))),
  ),
)

padding_above : (n : ℕ) → IsAbove (replicate n 61)
padding_above zero = tt
padding_above (suc n) = (omega arith, padding_above n)

pub base64_above : (bs : List ℕ) → IsBytes bs → IsAbove (base64_text bs)
unfolding base64_text
base64_above bs h = above_append (encode_symbols table bs) (replicate (padding_len (length bs)) 61) (symbols_above bs h) (padding_above (padding_len (length bs)))

text_bytes : (bs : List ℕ) → IsBytes (encode_of standard bs)
text_bytes bs i = let ascii = IsAscii-encode_of standard bs i in omega (arith, ascii)

-- and are read from it
pub decoded_again : (bytes : List ℕ) → IsBytes bytes → decoded (base64_text bytes) ≡ Some bytes
unfolding decoded decoded_of base64_text
decoded_again bytes h =
    let back : result_ok (decode_of standard (encode_of standard bytes)) ≡ Some bytes = ap result_ok (decode_of-encode_of standard bytes refl h) in
    ap (λ o. option_and_then if_bytes (option_and_then (decoded_of standard) o)) (if_bytes_same (encode_of standard bytes) (text_bytes bytes))
    ∙ ap (option_and_then if_bytes) back ∙ if_bytes_same bytes h

-- what the decoder answers
pub decoded_ok : (symbols bytes : List ℕ) → IsBytes symbols → IsBytes bytes → decode_of standard symbols ≡ Ok bytes → decoded symbols ≡ Some bytes
unfolding decoded decoded_of
decoded_ok symbols bytes given found e =
    ap (λ o. option_and_then if_bytes (option_and_then (decoded_of standard) o)) (if_bytes_same symbols given)
    ∙ ap (λ r. option_and_then if_bytes (result_ok r)) e ∙ if_bytes_same bytes found

pub decoded_none : (symbols : List ℕ) (error : DecodeError) → IsBytes symbols → decode_of standard symbols ≡ Err error → decoded symbols ≡ None
unfolding decoded decoded_of
decoded_none symbols error given e =
    ap (λ o. option_and_then if_bytes (option_and_then (decoded_of standard) o)) (if_bytes_same symbols given)
    ∙ ap (λ r. option_and_then if_bytes (result_ok r)) e

pub form_ok : (symbols : List ℕ) (made : Result (Vec ℕ Global) DecodeAllocError) (v : Vec ℕ Global) → IsBytes symbols
    → IfOk made (λ w. decode_of standard symbols ≡ Ok w.items) → IfOk made (λ w. IsBytes w.items) → IsDecoded made (Ok v)
    → decoded symbols ≡ Some v.items
form_ok symbols (Ok w) v given e found same =
    let one : v ≡ w = cc in rw one (decoded_ok symbols w.items given found e)
form_ok symbols (Err (failure.DecodeError d)) v given e found same = cc
form_ok symbols (Err failure.OutOfMemory) v given e found same = cc

pub form_fails : (symbols : List ℕ) (made : Result (Vec ℕ Global) DecodeAllocError) (e : Unfit) → IsBytes symbols
    → IfErr made (λ d. IsDecodeFailure standard symbols d) → IsDecoded made (Err e) → FailsIn e (decoded symbols)
form_fails symbols (Ok w) e given failed same = cc
form_fails symbols (Err (failure.DecodeError d)) e given failed same =
    let one : e ≡ unfit.Form = cc in rw one (decoded_none symbols d given failed)
form_fails symbols (Err failure.OutOfMemory) e given failed same =
    let one : e ≡ unfit.Memory = cc in rw one tt

-- ---- behind a colon

pub bytes_again : (bytes : List ℕ) → IsBytes bytes → bytes_of (bytes_field bytes) ≡ Some bytes
bytes_again bytes h = decoded_again bytes h

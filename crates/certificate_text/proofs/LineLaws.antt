-- Whole lines: what each is read as, and that what is written is read again.
use Rattle.std.proofs.Common.{◌≡◌, ℕ, ◌^◌, ◌<◌, ◌≤◌, suc, List, [], ◌∷◌, ◌++◌, length, Bool, true, false, eqb, cond, ◌&&◌, ℤ, pos, negsuc, Option, None, Some, codes, refl, sym, ap, subst, ◌∙◌, arith}
use Rattle.std.specs.Fmt.{decimal, signed_decimal}
use Rattle.std.specs.Int.{w64}
use Rattle.std.specs.Prelude.{FitsSigned}
use Rattle.std.specs.List.{All, AllByRecursion, slice_split, join_with_byte}
use Rattle.std.specs.Str.{all_ascii_digits}
use Rattle.std.specs.Cmp.Lexicographic.{same_text as told_same}
use Rattle.std.proofs.lemmas.Bool.Decides.{nat_tests}
use Rattle.std.proofs.lemmas.Fmt.{digits_decimal}
use Rattle.std.proofs.lemmas.Int.{ints}
use Rattle.std.proofs.lemmas.List.Elements.{All-from_recursion}
use Rattle.std.proofs.lemmas.List.Splits.{slice_split_none, slice_split_at, join_with_byte-slice_split}
use Rattle.std.proofs.lemmas.Str.Parse.{IsDigitsTest, tells_all_ascii_digits}
use Rattle.base64.specs.GeneralPurpose.{IsBytes}
use Rattle.kv_model.specs.declared.version.Rev.{Rev}
use Rattle.kv_model.specs.declared.version.Version.{Version}
use Rattle.kv_model.specs.declared.version.Body.{Body}
use Rattle.kv_model.specs.declared.version.Body.TheVariants.{Put, Gone}
use Rattle.kv_model.specs.Certificates.{Claim, Need}
use Rattle.certificate_text.specs.Lines.{is}
use Rattle.certificate_text.specs.Texts.{bytes_field, body_fields, need_fields, line_of, version_line, claim_line, number_line, IsRevision, IsRev, IsBody, IsVersion, IsNeed, IsClaim}
use Rattle.certificate_text.specs.Reading.{same_text, fields_of, put_of, gone_of, claim_by, alone, version_by, claim_at, number_by, version_of, claim_of, numbered}
use Rattle.certificate_text.proofs.Digits.{own}
use Rattle.certificate_text.proofs.Base64.{IsAbove, base64_above}
use Rattle.certificate_text.proofs.FieldLaws.{put_read, put_again, gone_read, gone_again, claim_read, claim_again, alone_read, alone_again}

-- ---- fields have no space within

digits_above : (ds : List ℕ) → all_ascii_digits ds ≡ true → IsAbove ds
digits_above [] h = tt
digits_above (d ∷ ds) h =
    let parts = tells_all_ascii_digits.parts d ds h in
    let range = parts.0 in
    (omega (arith, range), digits_above ds parts.1)

decimal_above : (n : ℕ) → n < 2 ^ 64 → IsAbove (decimal n)
decimal_above n h = digits_above (decimal n) (digits_decimal own n h)

signed_above : (z : ℤ) → FitsSigned w64 z → IsAbove (signed_decimal z)
signed_above (pos n) h = decimal_above n (let fits : n < 2 ^ 63 = grind (arith, ints, h) in omega (arith, fits))
signed_above (negsuc n) h = (omega arith, decimal_above (suc n) (let fits : suc n ≤ 2 ^ 63 = grind (arith, ints, h) in omega (arith, fits)))

bytes_above : (bytes : List ℕ) → IsBytes bytes → IsAbove (bytes_field bytes)
bytes_above bytes h = (omega arith, base64_above bytes h)

pub revision_above : (n : ℕ) → IsRevision n → IsAbove (decimal n)
revision_above n h = decimal_above n (omega (arith, h))

abbrev pub AreAbove : List (List ℕ) → Type 0
AreAbove = AllByRecursion IsAbove

pub body_above : (p : Rev) (key : List ℕ) (body : Body) → IsRev p → IsBytes key → IsBody body → AreAbove (body_fields p key body)
body_above p key (Put create version lease value) is_rev is_key is_body = (
  (omega arith, (omega arith, (omega arith, tt))),
  (
    revision_above p.main is_rev.0,
    (
      decimal_above p.sub is_rev.1,
      (
        bytes_above key is_key,
        (revision_above create is_body.0, (revision_above version is_body.1, (signed_above lease is_body.2, (bytes_above value is_body.3, tt)))),
      ),
    ),
  ),
)
body_above p key Gone is_rev is_key is_body =
    ((omega arith, (omega arith, (omega arith, (omega arith, tt)))), (revision_above p.main is_rev.0, (decimal_above p.sub is_rev.1, (bytes_above key is_key, tt))))

pub need_above : (p : Rev) (need : Need) → IsRev p → IsNeed need → AreAbove (need_fields p need)
need_above p (Need.range r) is_rev is_need =
    ((omega arith, (omega arith, (omega arith, (omega arith, (omega arith, tt))))), (revision_above p.main is_rev.0, (decimal_above p.sub is_rev.1, (revision_above r is_need, tt))))
need_above p (Need.watch r) is_rev is_need =
    ((omega arith, (omega arith, (omega arith, (omega arith, (omega arith, tt))))), (revision_above p.main is_rev.0, (decimal_above p.sub is_rev.1, (revision_above r is_need, tt))))
need_above p (Need.prev r) is_rev is_need =
    ((omega arith, (omega arith, (omega arith, (omega arith, tt)))), (revision_above p.main is_rev.0, (decimal_above p.sub is_rev.1, (revision_above r is_need, tt))))

-- ---- a line and its fields

pub not_within : (at : ℕ) (bs : List ℕ) → at ≤ 32 → IsAbove bs → AllByRecursion (λ b. is at b ≡ false) bs
not_within at [] low h = tt
not_within at (b ∷ bs) low h = (let above = h.0 in grind (arith, nat_tests, low, above), not_within at bs low h.1)

pub fields_again : (fields : List (List ℕ)) → AreAbove fields → 0 < length fields → fields_of (line_of fields) ≡ fields
fields_again [] h some = absurd (omega (arith, some))
fields_again (x ∷ []) h some = slice_split_none (is 32) x (All-from_recursion _ x (not_within 32 x (omega arith) h.0))
fields_again (x ∷ y ∷ more) h some =
    slice_split_at (is 32) x 32 (line_of (y ∷ more)) (All-from_recursion _ x (not_within 32 x (omega arith) h.0)) refl
    ∙ ap (λ rest. x ∷ rest) (fields_again (y ∷ more) h.1 (omega arith))

pub line_again : (line : List ℕ) → line ≡ line_of (fields_of line)
line_again line = sym (join_with_byte-slice_split 32 line)

-- ---- versions

abbrev IsFieldsOf : List (List ℕ) → Version → Type 0
IsFieldsOf fields v = (fields ≡ body_fields v.rev v.key v.body) × IsVersion v

word_is : (word known : List ℕ) → same_text word known ≡ true → word ≡ known
word_is word known e = told_same word known (sym e)

-- a line is the text of what its fields are
line_read : (line : List ℕ) (fields : List (List ℕ)) (A : Type 0) → (fields_of line ≡ fields) × A → (line ≡ line_of fields) × A
line_read line fields A found = (line_again line ∙ ap line_of found.0, found.1)

-- a line is read as its word has what follows read, where it is this word, and else as another may be
one_word : {X : Type 0} (Is : List (List ℕ) → X → Type 0) (a word : List ℕ) (xs : List (List ℕ)) (x : X) (f g : Option X)
    → (f ≡ Some x → Is (a ∷ xs) x) → (g ≡ Some x → Is (word ∷ xs) x) → (is : Bool) → same_text word a ≡ is
    → cond is f g ≡ Some x → Is (word ∷ xs) x
one_word Is a word xs x f g k other true e found = subst (λ w. Is (w ∷ xs) x) (sym (word_is word a e)) (k found)
one_word Is a word xs x f g k other false e found = other found

version_fields : (fields : List (List ℕ)) (v : Version) → version_by fields ≡ Some v → IsFieldsOf fields v
version_fields [] v e = cc e
version_fields (word ∷ xs) v e =
    one_word IsFieldsOf (codes "put") word xs v _ _ (put_read xs v)
    (λ f. one_word IsFieldsOf (codes "gone") word xs v _ None (gone_read xs v) (λ g. cc g) _ refl f) _ refl e

-- the version of a line is written so
pub version_read : (line : List ℕ) (v : Version) → version_of line ≡ Some v → (line ≡ version_line v) × IsVersion v
unfolding version_of
version_read line v e = line_read line _ _ (version_fields (fields_of line) v e)

body_again : (p : Rev) (key : List ℕ) (body : Body) → IsRev p → IsBytes key → IsBody body
    → version_by (body_fields p key body) ≡ Some (record { rev = p; key = key; body = body })
body_again p key (Put create version lease value) is_rev is_key is_body =
    put_again p key create version lease value is_rev is_key is_body.0 is_body.1 is_body.2 is_body.3
body_again p key Gone is_rev is_key is_body = gone_again p key is_rev is_key

some_body : (p : Rev) (key : List ℕ) (body : Body) → 0 < length (body_fields p key body)
some_body p key (Put create version lease value) = omega arith
some_body p key Gone = omega arith

pub version_again : (v : Version) → IsVersion v → version_of (version_line v) ≡ Some v
unfolding version_of
version_again v h =
    ap version_by (fields_again (body_fields v.rev v.key v.body) (body_above v.rev v.key v.body h.0 h.1 h.2) (some_body v.rev v.key v.body))
    ∙ body_again v.rev v.key v.body h.0 h.1 h.2

-- ---- claims

abbrev IsNeedOf : List (List ℕ) → Claim → Type 0
IsNeedOf fields claim = (fields ≡ need_fields claim.rev claim.need) × IsClaim claim

range_read : (xs : List (List ℕ)) (claim : Claim) → claim_by Need.range xs ≡ Some claim → IsNeedOf (codes "range" ∷ xs) claim
range_read xs claim e =
    let found = claim_read Need.range xs claim e in
    subst (IsNeedOf (codes "range" ∷ xs)) (sym found.1) (ap (λ rest. codes "range" ∷ rest) found.2, (found.3, found.4))

watch_read : (xs : List (List ℕ)) (claim : Claim) → claim_by Need.watch xs ≡ Some claim → IsNeedOf (codes "watch" ∷ xs) claim
watch_read xs claim e =
    let found = claim_read Need.watch xs claim e in
    subst (IsNeedOf (codes "watch" ∷ xs)) (sym found.1) (ap (λ rest. codes "watch" ∷ rest) found.2, (found.3, found.4))

prev_read : (xs : List (List ℕ)) (claim : Claim) → claim_by Need.prev xs ≡ Some claim → IsNeedOf (codes "prev" ∷ xs) claim
prev_read xs claim e =
    let found = claim_read Need.prev xs claim e in
    subst (IsNeedOf (codes "prev" ∷ xs)) (sym found.1) (ap (λ rest. codes "prev" ∷ rest) found.2, (found.3, found.4))

claim_fields : (fields : List (List ℕ)) (claim : Claim) → claim_at fields ≡ Some claim → IsNeedOf fields claim
claim_fields [] claim e = cc e
claim_fields (word ∷ xs) claim e =
    one_word IsNeedOf (codes "range") word xs claim _ _ (range_read xs claim)
    (λ f. one_word IsNeedOf (codes "watch") word xs claim _ _ (watch_read xs claim)
    (λ g. one_word IsNeedOf (codes "prev") word xs claim _ None (prev_read xs claim) (λ h. cc h) _ refl g) _ refl f) _ refl e

-- the claim of a line is written so
pub claim_line_read : (line : List ℕ) (claim : Claim) → claim_of line ≡ Some claim → (line ≡ claim_line claim) × IsClaim claim
unfolding claim_of
claim_line_read line claim e = line_read line _ _ (claim_fields (fields_of line) claim e)

need_again : (p : Rev) (need : Need) → IsRev p → IsNeed need → claim_at (need_fields p need) ≡ Some (record { rev = p; need = need })
need_again p (Need.range r) is_rev is_need = claim_again Need.range p r is_rev is_need
need_again p (Need.watch r) is_rev is_need = claim_again Need.watch p r is_rev is_need
need_again p (Need.prev r) is_rev is_need = claim_again Need.prev p r is_rev is_need

some_need : (p : Rev) (need : Need) → 0 < length (need_fields p need)
some_need p (Need.range r) = omega arith
some_need p (Need.watch r) = omega arith
some_need p (Need.prev r) = omega arith

pub claim_line_again : (claim : Claim) → IsClaim claim → claim_of (claim_line claim) ≡ Some claim
unfolding claim_of
claim_line_again claim h =
    ap claim_at (fields_again (need_fields claim.rev claim.need) (need_above claim.rev claim.need h.0 h.1) (some_need claim.rev claim.need))
    ∙ need_again claim.rev claim.need h.0 h.1

-- ---- a word and a number

number_word : (known word : List ℕ) (xs : List (List ℕ)) (n : ℕ) (b : Bool) → same_text word known ≡ b → cond b (alone xs) None ≡ Some n
    → (word ∷ xs ≡ known ∷ decimal n ∷ []) × IsRevision n
number_word known word xs n true is e =
    let found = alone_read xs n e in
    (ap (λ w. w ∷ xs) (word_is word known is) ∙ ap (λ rest. known ∷ rest) found.0, found.1)
number_word known word xs n false is e = cc e

number_fields : (known : List ℕ) (fields : List (List ℕ)) (n : ℕ) → number_by known fields ≡ Some n → (fields ≡ known ∷ decimal n ∷ []) × IsRevision n
number_fields known [] n e = cc e
number_fields known (word ∷ xs) n e = number_word known word xs n (same_text word known) refl e

pub number_line_read : (known line : List ℕ) (n : ℕ) → numbered known line ≡ Some n → (line ≡ number_line known n) × IsRevision n
unfolding numbered
number_line_read known line n e =
    let found = number_fields known (fields_of line) n e in
    (line_again line ∙ ap line_of found.0, found.1)

pub number_line_again : (known : List ℕ) (n : ℕ) → IsAbove known → same_text known known ≡ true → IsRevision n → numbered known (number_line known n) ≡ Some n
unfolding numbered
number_line_again known n above same h =
    ap (number_by known) (fields_again (known ∷ decimal n ∷ []) (above, (revision_above n h, tt)) (omega arith))
    ∙ ap (λ b. cond b (alone (decimal n ∷ [])) None) same ∙ alone_again n h

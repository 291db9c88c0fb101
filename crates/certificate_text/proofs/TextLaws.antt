-- Whole texts of a format: steps one behind the other, and what reading a text in a format says of its texts.
use Rattle.std.proofs.Common.{◌≡◌, ℕ, List, [], ◌∷◌, ◌++◌, Bool, true, false, cond, ◌&&◌, Option, None, Some, Result, Ok, Err, codes, refl, sym, ap, subst, ◌∙◌, append_assoc, arith}
use Rattle.std.specs.Prelude.{⊤, option_and_then}
use Rattle.std.specs.List.{AllByRecursion}
use Rattle.std.specs.Cmp.Lexicographic.{same_text as told_same}
use Rattle.std.proofs.lemmas.List.{append-nil}
use Rattle.kv_model.specs.declared.version.Version.{Version}
use Rattle.kv_model.specs.declared.version.Rev.{Rev}
use Rattle.kv_model.specs.declared.version.Body.{Body}
use Rattle.kv_model.specs.declared.version.Body.TheVariants.{Put, Gone}
use Rattle.kv_model.specs.Certificates.{Dump, Claim, Need}
use Rattle.witness_core.specs.Older.{is_previous}
use Rattle.certificate_text.specs.Texts.{body_fields, need_fields, line_of, version_line, claim_line, number_line, dump_head, needs_head, dump_lines, needs_lines, text_lines, IsRevision, IsVersion, IsClaim, FitFormat}
use Rattle.certificate_text.specs.Reading.{same_text, version_of, claim_of, if_fits, claim_in, numbered}
use Rattle.certificate_text.specs.Walking.{Read, ◌>>=◌, line_by, exactly, up_to_end, if_none_left, dump_of, needs_of, read_in}
use Rattle.certificate_text.specs.Lines.{HasText, Begins}
use Rattle.certificate_text.proofs.Base64.{IsAbove}
use Rattle.certificate_text.proofs.LineLaws.{version_read, version_again, claim_line_read, claim_line_again, number_line_read, number_line_again}
use Rattle.certificate_text.proofs.WalkLaws.{Lines, pair, StoppedIn, IsReader, IsLine, line_reader, all_reader, bind_ok, bind_err}

-- ---- one step behind the other

abbrev both : {A B : Type 0} → (Lines → Read A) → (Lines → Read B) → Lines → Read (A × B)
both r q ls = r ls >>= λ x. q x.1 >>= λ y. Ok ((x.0, y.0), y.1)

abbrev both_form : {A B : Type 0} → (A → Lines) → (B → Lines) → A × B → Lines
both_form f g p = f p.0 ++ g p.1

abbrev both_limits : {A B : Type 0} → (A → Type 0) → (B → Type 0) → A × B → Type 0
both_limits L M p = L p.0 × M p.1

on_ok : {A B : Type 0} (r : Result A Lines) (f : A → Result B Lines) (x : A) (z : Result B Lines) → r ≡ Ok x → f x ≡ z → (r >>= f) ≡ z
on_ok r f x z e h = ap (λ s. s >>= f) e ∙ h

on_err : {A B : Type 0} (r : Result A Lines) (f : A → Result B Lines) (ls : Lines) → r ≡ Err ls → (r >>= f) ≡ Err ls
on_err r f ls e = ap (λ s. s >>= f) e

both_read : {A B : Type 0} (r : Lines → Read A) (q : Lines → Read B) (f : A → Lines) (g : B → Lines) (L : A → Type 0) (M : B → Type 0)
    → IsReader r f L → IsReader q g M → (ls rest : Lines) (p : A × B) → both r q ls ≡ Ok (p, rest) → (ls ≡ both_form f g p ++ rest) × both_limits L M p
both_read {A} {B} r q f g L M is also ls rest p e =
    let first = bind_ok (r ls) (λ x. q x.1 >>= λ y. Ok ((x.0, y.0), y.1)) (p, rest) e in
    let second = bind_ok (q first.0.1) (λ y. Ok ((first.0.0, y.0), y.1)) (p, rest) first.2 in
    let made : (A × B) × Lines = ((first.0.0, second.0.0), second.0.1) in
    let same : made ≡ pair p rest = cc second.2 in
    let one = is.read ls first.0.1 first.0.0 first.1 in
    let two = also.read first.0.1 second.0.1 second.0.0 second.1 in
    subst (λ z. (ls ≡ both_form f g z.0 ++ z.1) × both_limits L M z.0) same
    (one.0 ∙ ap (λ xs. f first.0.0 ++ xs) two.0 ∙ sym (append_assoc (f first.0.0) (g second.0.0) second.0.1), (one.1, two.1))

both_again : {A B : Type 0} (r : Lines → Read A) (q : Lines → Read B) (f : A → Lines) (g : B → Lines) (L : A → Type 0) (M : B → Type 0)
    → IsReader r f L → IsReader q g M → (rest : Lines) (p : A × B) → both_limits L M p → both r q (both_form f g p ++ rest) ≡ Ok (p, rest)
both_again r q f g L M is also rest p h =
    ap (both r q) (append_assoc (f p.0) (g p.1) rest)
    ∙ on_ok (r (f p.0 ++ (g p.1 ++ rest))) _ (p.0, g p.1 ++ rest) _ (is.again (g p.1 ++ rest) p.0 h.0)
    (on_ok (q (g p.1 ++ rest)) _ (p.1, rest) _ (also.again rest p.1 h.1) refl)

both_stop : {A B : Type 0} (r : Lines → Read A) (q : Lines → Read B) (f : A → Lines) (g : B → Lines) (L : A → Type 0) (M : B → Type 0)
    → IsReader r f L → IsReader q g M → (ls rest : Lines) → both r q ls ≡ Err rest → StoppedIn (both r q) (both_form f g) (both_limits L M) ls rest
both_stop r q f g L M is also ls rest e =
    bind_err (r ls) (λ x. q x.1 >>= λ y. Ok ((x.0, y.0), y.1)) rest _ e
    (λ failed.
    let at = is.stop ls rest failed in
    record {
      before = at.before;
      more = at.more ++ g also.some;
      some = (at.some, also.some);
      parts = at.parts;
      limits = (at.limits, also.some_limits);
      whole = ap (λ xs. xs ++ g also.some) at.whole ∙ append_assoc at.before at.more (g also.some);
      stays = λ line after other h. on_err (r (at.before ++ line ∷ other)) _ (line ∷ other) (at.stays line after other h);
    })
    (λ x ok later.
    bind_err (q x.1) (λ y. Ok ((x.0, y.0), y.1)) rest _ later
    (λ failed.
    let one = is.read ls x.1 x.0 ok in
    let at = also.stop x.1 rest failed in
    record {
      before = f x.0 ++ at.before;
      more = at.more;
      some = (x.0, at.some);
      parts = one.0 ∙ ap (λ xs. f x.0 ++ xs) at.parts ∙ sym (append_assoc (f x.0) at.before rest);
      limits = (one.1, at.limits);
      whole = ap (λ xs. f x.0 ++ xs) at.whole ∙ sym (append_assoc (f x.0) at.before at.more);
      stays = λ line after other h.
          ap (both r q) (append_assoc (f x.0) at.before (line ∷ other))
          ∙ on_ok (r (f x.0 ++ (at.before ++ line ∷ other))) _ (x.0, at.before ++ line ∷ other) _ (is.again (at.before ++ line ∷ other) x.0 one.1)
          (on_err (q (at.before ++ line ∷ other)) _ (line ∷ other) (at.stays line after other h));
    })
    (λ y fine bad. cc bad))

both_reader : {A B : Type 0} (r : Lines → Read A) (q : Lines → Read B) (f : A → Lines) (g : B → Lines) (L : A → Type 0) (M : B → Type 0)
    → IsReader r f L → IsReader q g M → IsReader (both r q) (both_form f g) (both_limits L M)
both_reader r q f g L M is also = record {
  some = (is.some, also.some);
  some_limits = (is.some_limits, also.some_limits);
  read = λ ls rest p e. both_read r q f g L M is also ls rest p e;
  again = λ rest p h. both_again r q f g L M is also rest p h;
  stop = λ ls rest e. both_stop r q f g L M is also ls rest e;
}

-- ---- the steps of a text

floor_above : IsAbove (codes "floor")
floor_above = (omega arith, (omega arith, (omega arith, (omega arith, (omega arith, tt)))))

revision_above : IsAbove (codes "revision")
revision_above = (omega arith, (omega arith, (omega arith, (omega arith, (omega arith, (omega arith, (omega arith, (omega arith, tt))))))))

exact_by : (known line : List ℕ) (b : Bool) (u : ⊤) → same_text line known ≡ b → cond b (Some tt) None ≡ Some u → line ≡ known
exact_by known line true u t e = told_same line known (sym t)
exact_by known line false u t e = cc e

exactly_is : (known : List ℕ) → same_text known known ≡ true → IsLine (exactly known) (λ u. known) (λ u. ⊤)
exactly_is known same = record {
  some = tt;
  some_limits = tt;
  found = λ line u e. (exact_by known line (same_text line known) u refl e, tt);
  again = λ u h. ap (λ b. cond b (Some tt) None) same;
}

numbered_is : (known : List ℕ) → IsAbove known → same_text known known ≡ true → IsLine (numbered known) (number_line known) IsRevision
numbered_is known above same = record {
  some = 0;
  some_limits = omega arith;
  found = λ line n e. number_line_read known line n e;
  again = λ n h. number_line_again known n above same h;
}

version_is : IsLine version_of version_line IsVersion
version_is = record {
  some = record { rev = record { main = 0; sub = 0 }; key = []; body = Gone };
  some_limits = ((omega arith, omega arith), (λ i. omega arith), tt);
  found = λ line v e. version_read line v e;
  again = λ v h. version_again v h;
}

claim_is : IsLine claim_of claim_line IsClaim
claim_is = record {
  some = record { rev = record { main = 0; sub = 0 }; need = Need.range 0 };
  some_limits = ((omega arith, omega arith), omega arith);
  found = λ line claim e. claim_line_read line claim e;
  again = λ claim h. claim_line_again claim h;
}

abbrev IsClaimIn : Bool → Claim → Type 0
IsClaimIn first claim = IsClaim claim × (first && is_previous claim.need ≡ false)

fits_by : (first : Bool) (found claim : Claim) (b : Bool) → first && is_previous found.need ≡ b → cond b None (Some found) ≡ Some claim
    → (found ≡ claim) × (first && is_previous claim.need ≡ false)
fits_by first found claim true t e = cc e
fits_by first found claim false t e = let same : found ≡ claim = cc e in (same, subst (λ c. first && is_previous c.need ≡ false) same t)

fits : (first : Bool) (o : Option Claim) (claim : Claim) → option_and_then (if_fits first) o ≡ Some claim → (o ≡ Some claim) × (first && is_previous claim.need ≡ false)
fits first None claim e = cc e
fits first (Some found) claim e = let got = fits_by first found claim (first && is_previous found.need) refl e in (ap Some got.0, got.1)

no_claim_fails : (first : Bool) → first && false ≡ false
no_claim_fails true = refl
no_claim_fails false = refl

claim_in_is : (first : Bool) → IsLine (claim_in first) claim_line (IsClaimIn first)
unfolding claim_in claim_is
claim_in_is first = record {
  some = claim_is.some;
  some_limits = (claim_is.some_limits, no_claim_fails first);
  found = λ line claim e. (let got = fits first (claim_of line) claim e in let shape = claim_is.found line claim got.0 in (shape.0, (shape.1, got.1)));
  again = λ claim h. ap (option_and_then (if_fits first)) (claim_is.again claim h.0) ∙ ap (λ b. cond b None (Some claim)) h.1;
}

body_is_no_end : (p : Rev) (key : List ℕ) (body : Body) → same_text (line_of (body_fields p key body)) (codes "end") ≡ false
body_is_no_end p key (Put create version lease value) = refl
body_is_no_end p key Gone = refl

need_is_no_end : (p : Rev) (need : Need) → same_text (line_of (need_fields p need)) (codes "end") ≡ false
need_is_no_end p (Need.range r) = refl
need_is_no_end p (Need.watch r) = refl
need_is_no_end p (Need.prev r) = refl

-- ---- steps that give the same in another shape

moved_read : {A B : Type 0} (r : Lines → Read A) (q : Lines → Read B) (f : A → Lines) (L : A → Type 0) (to : A → B) (from : B → A)
    → ((a : A) → from (to a) ≡ a) → ((ls : Lines) → q ls ≡ (r ls >>= λ x. Ok (to x.0, x.1))) → IsReader r f L
    → (ls rest : Lines) (b : B) → q ls ≡ Ok (b, rest) → (ls ≡ f (from b) ++ rest) × L (from b)
moved_read {A} {B} r q f L to from back same is ls rest b e =
    let first = bind_ok (r ls) (λ x. Ok (to x.0, x.1)) (b, rest) (sym (same ls) ∙ e) in
    let made : B × Lines = (to first.0.0, first.0.1) in
    let here : made ≡ pair b rest = cc first.2 in
    subst (λ z. (ls ≡ f (from z.0) ++ z.1) × L (from z.0)) here
    (subst (λ a. (ls ≡ f a ++ first.0.1) × L a) (sym (back first.0.0)) (is.read ls first.0.1 first.0.0 first.1))

moved_stop : {A B : Type 0} (r : Lines → Read A) (q : Lines → Read B) (f : A → Lines) (L : A → Type 0) (to : A → B) (from : B → A)
    → ((a : A) → from (to a) ≡ a) → ((ls : Lines) → q ls ≡ (r ls >>= λ x. Ok (to x.0, x.1))) → IsReader r f L
    → (ls rest : Lines) → q ls ≡ Err rest → StoppedIn q (λ b. f (from b)) (λ b. L (from b)) ls rest
moved_stop r q f L to from back same is ls rest e =
    bind_err (r ls) (λ x. Ok (to x.0, x.1)) rest _ (sym (same ls) ∙ e)
    (λ failed.
    let at = is.stop ls rest failed in
    record {
      before = at.before;
      more = at.more;
      some = to at.some;
      parts = at.parts;
      limits = subst L (sym (back at.some)) at.limits;
      whole = ap f (back at.some) ∙ at.whole;
      stays = λ line after other h. same (at.before ++ line ∷ other) ∙ on_err (r (at.before ++ line ∷ other)) _ (line ∷ other) (at.stays line after other h);
    })
    (λ x fine bad. cc bad)

moved : {A B : Type 0} (r : Lines → Read A) (q : Lines → Read B) (f : A → Lines) (L : A → Type 0) (to : A → B) (from : B → A)
    → ((b : B) → to (from b) ≡ b) → ((a : A) → from (to a) ≡ a) → ((ls : Lines) → q ls ≡ (r ls >>= λ x. Ok (to x.0, x.1))) → IsReader r f L
    → IsReader q (λ b. f (from b)) (λ b. L (from b))
moved r q f L to from forth back same is = record {
  some = to is.some;
  some_limits = subst L (sym (back is.some)) is.some_limits;
  read = λ ls rest b e. moved_read r q f L to from back same is ls rest b e;
  again = λ rest b h. same (f (from b) ++ rest) ∙ on_ok (r (f (from b) ++ rest)) _ (from b, rest) _ (is.again rest (from b) h) (ap (λ c. Ok (c, rest)) (forth b));
  stop = λ ls rest e. moved_stop r q f L to from back same is ls rest e;
}

-- ---- a dump

abbrev Head : Type 0
Head = ((⊤ × ℕ) × ℕ) × List Version

abbrev opening : Bool → Lines → Read Head
opening first = both (both (both (line_by (exactly (dump_head first))) (line_by (numbered (codes "floor")))) (line_by (numbered (codes "revision")))) (up_to_end version_of)

abbrev dump_from : Head → Dump
dump_from p = record { floor = p.0.0.1; revision = p.0.1; versions = p.1 }

abbrev head_of : Dump → Head
head_of d = (((tt, d.floor), d.revision), d.versions)

abbrev as_dump : ℕ → ℕ → List Version × Lines → Result (Dump × Lines) Lines
as_dump floor revision v = Ok (record { floor = floor; revision = revision; versions = v.0 }, v.1)

abbrev joined : {A B : Type 0} → A → B × Lines → Result ((A × B) × Lines) Lines
joined a y = Ok ((a, y.0), y.1)

abbrev then_joined : {A B : Type 0} → (Lines → Read B) → A × Lines → Result ((A × B) × Lines) Lines
then_joined q x = q x.1 >>= joined x.0

abbrev from_head : Head × Lines → Result (Dump × Lines) Lines
from_head x = Ok (dump_from x.0, x.1)

versions_behind : (u : ⊤) (floor revision : ℕ) (r : Read (List Version))
    → (r >>= as_dump floor revision) ≡ ((r >>= joined {A = (⊤ × ℕ) × ℕ} ((u, floor), revision)) >>= from_head)
versions_behind u floor revision (Ok vs) = refl
versions_behind u floor revision (Err ls) = refl

revision_behind : (u : ⊤) (floor : ℕ) (r : Read ℕ) (vs : Lines → Read (List Version))
    → (r >>= λ n. vs n.1 >>= as_dump floor n.0) ≡ (((r >>= joined {A = ⊤ × ℕ} (u, floor)) >>= then_joined vs) >>= from_head)
revision_behind u floor (Ok n) vs = versions_behind u floor n.0 (vs n.1)
revision_behind u floor (Err ls) vs = refl

floor_behind : (u : ⊤) (r : Read ℕ) (n : Lines → Read ℕ) (vs : Lines → Read (List Version))
    → (r >>= λ f. n f.1 >>= λ m. vs m.1 >>= as_dump f.0 m.0) ≡ ((((r >>= joined u) >>= then_joined n) >>= then_joined vs) >>= from_head)
floor_behind u (Ok f) n vs = revision_behind u f.0 (n f.1) vs
floor_behind u (Err ls) n vs = refl

head_behind : (r : Read ⊤) (f n : Lines → Read ℕ) (vs : Lines → Read (List Version))
    → (r >>= λ h. f h.1 >>= λ a. n a.1 >>= λ m. vs m.1 >>= as_dump a.0 m.0) ≡ ((((r >>= then_joined f) >>= then_joined n) >>= then_joined vs) >>= from_head)
head_behind (Ok u) f n vs = floor_behind u.0 (f u.1) n vs
head_behind (Err ls) f n vs = refl

same_dump : (first : Bool) (ls : Lines) → dump_of first ls ≡ (opening first ls >>= from_head)
unfolding dump_of
same_dump first ls = head_behind (line_by (exactly (dump_head first)) ls) (line_by (numbered (codes "floor"))) (line_by (numbered (codes "revision"))) (up_to_end version_of)

abbrev HeadLimits : Head → Type 0
HeadLimits p = ((⊤ × IsRevision p.0.0.1) × IsRevision p.0.1) × AllByRecursion IsVersion p.1

dump_head_is : (first : Bool) → same_text (dump_head first) (dump_head first) ≡ true
dump_head_is true = refl
dump_head_is false = refl

opening_reader : (first : Bool) → IsReader (opening first) (λ p. dump_lines first (dump_from p)) HeadLimits
opening_reader first =
    both_reader (both (both (line_by (exactly (dump_head first))) (line_by (numbered (codes "floor")))) (line_by (numbered (codes "revision")))) (up_to_end version_of) _ _ _ _
    (both_reader (both (line_by (exactly (dump_head first))) (line_by (numbered (codes "floor")))) (line_by (numbered (codes "revision"))) _ _ _ _
    (both_reader (line_by (exactly (dump_head first))) (line_by (numbered (codes "floor"))) _ _ _ _
    (line_reader _ _ _ (exactly_is (dump_head first) (dump_head_is first))) (line_reader _ _ _ (numbered_is (codes "floor") floor_above refl)))
    (line_reader _ _ _ (numbered_is (codes "revision") revision_above refl)))
    (all_reader version_of version_line IsVersion version_is (λ v. body_is_no_end v.rev v.key v.body))

dump_reader : (first : Bool) → IsReader (dump_of first) (dump_lines first) (λ d. HeadLimits (head_of d))
dump_reader first =
    moved (opening first) (dump_of first) (λ p. dump_lines first (dump_from p)) HeadLimits dump_from head_of (λ d. refl) (λ p. refl) (same_dump first)
    (opening_reader first)

-- ---- its needs

abbrev closing : Bool → Lines → Read (⊤ × List Claim)
closing first = both (line_by (exactly (needs_head first))) (up_to_end (claim_in first))

abbrev from_needs : (⊤ × List Claim) × Lines → Result (List Claim × Lines) Lines
from_needs x = Ok (x.0.1, x.1)

claims_behind : (u : ⊤) (r : Read (List Claim)) → r ≡ ((r >>= joined u) >>= from_needs)
claims_behind u (Ok x) = refl
claims_behind u (Err ls) = refl

needs_behind : (r : Read ⊤) (claims : Lines → Read (List Claim)) → (r >>= λ x. claims x.1) ≡ ((r >>= then_joined claims) >>= from_needs)
needs_behind (Ok u) claims = claims_behind u.0 (claims u.1)
needs_behind (Err ls) claims = refl

same_needs : (first : Bool) (ls : Lines) → needs_of first ls ≡ (closing first ls >>= from_needs)
unfolding needs_of
same_needs first ls = needs_behind (line_by (exactly (needs_head first)) ls) (up_to_end (claim_in first))

abbrev NeedsLimits : Bool → ⊤ × List Claim → Type 0
NeedsLimits first p = ⊤ × AllByRecursion (IsClaimIn first) p.1

needs_head_is : (first : Bool) → same_text (needs_head first) (needs_head first) ≡ true
needs_head_is true = refl
needs_head_is false = refl

closing_reader : (first : Bool) → IsReader (closing first) (λ p. needs_lines first p.1) (NeedsLimits first)
closing_reader first =
    both_reader (line_by (exactly (needs_head first))) (up_to_end (claim_in first)) _ _ _ _ (line_reader _ _ _ (exactly_is (needs_head first) (needs_head_is first)))
    (all_reader (claim_in first) claim_line (IsClaimIn first) (claim_in_is first) (λ claim. need_is_no_end claim.rev claim.need))

needs_reader : (first : Bool) → IsReader (needs_of first) (needs_lines first) (λ claims. NeedsLimits first (tt, claims))
needs_reader first =
    moved (closing first) (needs_of first) (λ p. needs_lines first p.1) (NeedsLimits first) (λ p. p.1) (λ claims. (tt, claims)) (λ claims. refl) (λ p. refl)
    (same_needs first) (closing_reader first)

-- ---- a text

abbrev Whole : Type 0
Whole = Dump × List Claim

abbrev pieces : Bool → Lines → Read Whole
pieces first = both (dump_of first) (needs_of first)

abbrev WholeLimits : Bool → Whole → Type 0
WholeLimits first p = HeadLimits (head_of p.0) × NeedsLimits first (tt, p.1)

pieces_reader : (first : Bool) → IsReader (pieces first) (λ p. text_lines first p.0 p.1) (WholeLimits first)
pieces_reader first =
    both_reader (dump_of first) (needs_of first) (dump_lines first) (needs_lines first) (λ d. HeadLimits (head_of d)) (λ claims. NeedsLimits first (tt, claims))
    (dump_reader first) (needs_reader first)

claims_fit : (first : Bool) (claims : List Claim) → AllByRecursion (IsClaimIn first) claims → AllByRecursion IsClaim claims × FitFormat first claims
claims_fit true [] h = (tt, tt)
claims_fit false [] h = (tt, tt)
claims_fit true (claim ∷ claims) h = let others = claims_fit true claims h.1 in ((h.0.0, others.0), (h.0.1, others.1))
claims_fit false (claim ∷ claims) h = let others = claims_fit false claims h.1 in ((h.0.0, others.0), tt)

fitting_claims : (first : Bool) (claims : List Claim) → AllByRecursion IsClaim claims → FitFormat first claims → AllByRecursion (IsClaimIn first) claims
fitting_claims first [] h fit = tt
fitting_claims true (claim ∷ claims) h fit = ((h.0, fit.0), fitting_claims true claims h.1 fit.1)
fitting_claims false (claim ∷ claims) h fit = ((h.0, refl), fitting_claims false claims h.1 tt)

in_limits : (first : Bool) (d : Dump) (claims : List Claim) → WholeLimits first (d, claims) → HasText first d claims
in_limits first d claims h =
    let needs = claims_fit first claims h.1.1 in
    (record { floor = h.0.0.0.1; revision = h.0.0.1; versions = h.0.1; needs = needs.0 }, needs.1)

from_limits : (first : Bool) (d : Dump) (claims : List Claim) → HasText first d claims → WholeLimits first (d, claims)
from_limits first d claims h = ((((tt, h.0.floor), h.0.revision), h.0.versions), (tt, fitting_claims first claims h.0.needs h.1))

abbrev finish : Whole × Lines → Result Whole Lines
finish x = if_none_left x.0 x.1

needs_then : (d : Dump) (r : Read (List Claim)) → (r >>= λ claims. if_none_left (d, claims.0) claims.1) ≡ ((r >>= λ y. Ok ((d, y.0), y.1)) >>= finish)
needs_then d (Ok x) = refl
needs_then d (Err ls) = refl

dump_then : (r : Read Dump) (needs : Lines → Read (List Claim))
    → (r >>= λ d. needs d.1 >>= λ claims. if_none_left (d.0, claims.0) claims.1) ≡ ((r >>= λ x. needs x.1 >>= λ y. Ok ((x.0, y.0), y.1)) >>= finish)
dump_then (Ok d) needs = needs_then d.0 (needs d.1)
dump_then (Err ls) needs = refl

same_read : (first : Bool) (ls : Lines) → read_in first ls ≡ (pieces first ls >>= finish)
unfolding read_in
same_read first ls = dump_then (dump_of first ls) (needs_of first)

left_ok : (a b : Whole) (ls : Lines) → if_none_left a ls ≡ Ok b → (ls ≡ []) × (a ≡ b)
left_ok a b [] e = (refl, cc e)
left_ok a b (line ∷ ls) e = cc e

left_err : (a : Whole) (ls rest : Lines) → if_none_left a ls ≡ Err rest → (line : List ℕ) × (after : Lines) × (ls ≡ line ∷ after) × (rest ≡ line ∷ after)
left_err a [] rest e = cc e
left_err a (line ∷ ls) rest e = (line, ls, refl, sym (cc e))

-- what was read has these very lines
pub read_takes : (first : Bool) (ls : Lines) (d : Dump) (claims : List Claim) → read_in first ls ≡ Ok (d, claims)
    → (ls ≡ text_lines first d claims) × HasText first d claims
read_takes first ls d claims e =
    let got = bind_ok (pieces first ls) finish (d, claims) (sym (same_read first ls) ∙ e) in
    let done = left_ok got.0.0 (d, claims) got.0.1 got.2 in
    let shape = (pieces_reader first).read ls got.0.1 got.0.0 got.1 in
    subst (λ p. (ls ≡ text_lines first p.0 p.1) × HasText first p.0 p.1) done.1 (
      shape.0 ∙ ap (λ rest. text_lines first got.0.0.0 got.0.0.1 ++ rest) done.0 ∙ append-nil (text_lines first got.0.0.0 got.0.0.1),
      in_limits first got.0.0.0 got.0.0.1 shape.1,
    )

-- and its lines are read again
pub read_again : (first : Bool) (d : Dump) (claims : List Claim) → HasText first d claims → read_in first (text_lines first d claims) ≡ Ok (d, claims)
read_again first d claims h =
    ap (read_in first) (sym (append-nil (text_lines first d claims))) ∙ same_read first (text_lines first d claims ++ [])
    ∙ on_ok (pieces first (text_lines first d claims ++ [])) finish ((d, claims), []) (Ok (d, claims))
    ((pieces_reader first).again [] (d, claims) (from_limits first d claims h)) refl

-- reading stopped behind some lines, with which a text begins, and it stops there whatever follows the line
pub record StopsAt (first : Bool) (ls rest : Lines) : Type 0 where
  pub before : Lines
  pub parts : ls ≡ before ++ rest
  pub begins : Begins before
  pub stays : (line : List ℕ) (after other : Lines) → rest ≡ line ∷ after → read_in first (before ++ line ∷ other) ≡ Err (line ∷ other)

pub read_stops : (first : Bool) (ls rest : Lines) → read_in first ls ≡ Err rest → StopsAt first ls rest
read_stops first ls rest e =
    bind_err (pieces first ls) finish rest (StopsAt first ls rest) (sym (same_read first ls) ∙ e)
    (λ failed.
    let at = (pieces_reader first).stop ls rest failed in
    record {
      before = at.before;
      parts = at.parts;
      begins = (first, at.some.0, at.some.1, at.more, in_limits first at.some.0 at.some.1 at.limits, at.whole);
      stays = λ line after other h.
          same_read first (at.before ++ line ∷ other) ∙ on_err (pieces first (at.before ++ line ∷ other)) finish (line ∷ other) (at.stays line after other h);
    })
    (λ x fine later.
    let shape = (pieces_reader first).read ls x.1 x.0 fine in
    let left = left_err x.0 x.1 rest later in
    let lines : Lines = text_lines first x.0.0 x.0.1 in
    record {
      before = lines;
      parts = shape.0 ∙ ap (λ xs. lines ++ xs) (left.2 ∙ sym left.3);
      begins = (first, x.0.0, x.0.1, [], in_limits first x.0.0 x.0.1 shape.1, sym (append-nil lines));
      stays = λ line after other h.
          same_read first (lines ++ line ∷ other)
          ∙ on_ok (pieces first (lines ++ line ∷ other)) finish (x.0, line ∷ other) (Err (line ∷ other)) ((pieces_reader first).again (line ∷ other) x.0 shape.1) refl;
    })

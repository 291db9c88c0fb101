-- The text of a header alone is that of its object.
use Rattle.std.proofs.Common.{◌≡◌, ◌<◌, ◌≤◌, ◌^◌, ◌==◌, ℕ, List, [], ◌∷◌, ◌++◌, Bool, true, false, cond, refl, sym, ◌∙◌, ap, arith, append_assoc}
use Rattle.std.specs.Prelude.{None, Some, codes, decimal}
use Rattle.std.specs.Fmt.{digits}
use Rattle.std.specs.List.{AllByRecursion}
use Rattle.std.proofs.lemmas.Fmt.{digits_decimal}
use Rattle.std.proofs.lemmas.Str.Parse.{IsDigitsTest, numerals_by_value}
use Rattle.json.specs.Print.{escape, escape_byte, quoted}
use Rattle.json.proofs.Printed.Strings.{escape_byte_plain}
use Rattle.serde_json.specs.Data.{Members}
use Rattle.serde_json.specs.Written.{compact_text, members_text}
use Rattle.kv_model.specs.declared.ids.Ids.{Ids}
use Rattle.kv_model.specs.Answers.{header, header_alone, nat_field, text_of, with_field}
use Rattle.gateway_text.specs.Bare.{bare_text, number_between}

-- ---- digits stand in a string as they are

abbrev AreDigits : List ℕ → Type 0
AreDigits ds = AllByRecursion (λ b. (48 ≤ b) × (b ≤ 57)) ds

tells : IsDigitsTest AreDigits
tells = record { empty = tt; parts = λ c cs p. p; more = λ c cs k p. (k, p) }

kept : (ds : List ℕ) → AreDigits ds → escape ds ≡ ds
kept [] h = refl
kept (b ∷ bs) h =
    let least : 48 ≤ b = h.0.0 in
    let most : b ≤ 57 = h.0.1 in
    λ i. escape_byte_plain b (λ e. omega arith) (λ e. omega arith) (omega arith) i ++ kept bs h.1 i

pub escaped_decimal : (n : ℕ) → n < 2 ^ 64 → escape (decimal n) ≡ decimal n
escaped_decimal n h = kept (decimal n) (digits_decimal (numerals_by_value AreDigits tells) n h)

-- ---- the members

-- the text of members that are the first ones, and the same behind others
abbrev Goes : Members → List ℕ → Type 0
Goes ms t = (members_text false ms ≡ t) × (members_text true ms ≡ 44 ∷ t)

-- the text of a number as a member's value, and what is behind it
value-text : (name behind rest d : List ℕ)
    → name ++ 58 ∷ ((34 ∷ (d ++ 34 ∷ [])) ++ (behind ++ rest)) ≡ ((name ++ 58 ∷ 34 ∷ []) ++ (d ++ 34 ∷ behind)) ++ rest
value-text name behind rest d = simp append_assoc

before-others : (b : Bool) (name : List ℕ) (n : ℕ) (ms : Members) (t : List ℕ) → Goes ms t
    → Goes (with_field name (cond b None (Some (text_of (decimal n)))) ms)
    (cond b [] ((quoted name ++ 58 ∷ 34 ∷ []) ++ (escape (decimal n) ++ 34 ∷ 44 ∷ [])) ++ t)
before-others true name n ms t g = g
before-others false name n ms t g = (first, ap (λ s. 44 ∷ s) first)
  where
    first : quoted name ++ 58 ∷ (quoted (decimal n) ++ members_text true ms) ≡ ((quoted name ++ 58 ∷ 34 ∷ []) ++ (escape (decimal n) ++ 34 ∷ 44 ∷ [])) ++ t
    first = ap (λ s. quoted name ++ 58 ∷ (quoted (decimal n) ++ s)) g.1 ∙ value-text (quoted name) (44 ∷ []) t (escape (decimal n))

at-last : (b : Bool) (name : List ℕ) (n : ℕ)
    → members_text true (with_field name (cond b None (Some (text_of (decimal n)))) Members.no_members)
    ≡ cond b [] ((44 ∷ (quoted name ++ 58 ∷ 34 ∷ [])) ++ (escape (decimal n) ++ 34 ∷ [])) ++ 125 ∷ []
at-last true name n = refl
at-last false name n = ap (λ s. 44 ∷ s) (value-text (quoted name) [] (125 ∷ []) (escape (decimal n)))

-- ---- the whole

pub bare : (ids : Ids) (r : ℕ) → bare_text ids r ≡ compact_text (header_alone (header ids r))
unfolding bare_text header header_alone escape_byte digits
bare ids r =
    let last = at-last (r == 0) (codes "revision") r in
    let tail = number_between (codes ",\"revision\":\"") r (codes "\"") ++ 125 ∷ [] in
    let term : Goes (with_field (codes "raft_term") (nat_field 1) (with_field (codes "revision") (nat_field r) Members.no_members)) (codes "\"raft_term\":\"1\"" ++ tail) =
    (ap (λ s. codes "\"raft_term\":\"1\"" ++ s) last, ap (λ s. codes ",\"raft_term\":\"1\"" ++ s) last) in
    let member = before-others (ids.member == 0) (codes "member_id") ids.member _ _ term in
    let cluster = before-others (ids.cluster == 0) (codes "cluster_id") ids.cluster _ _ member in
    sym (ap (λ s. codes "{\"header\":{" ++ s ++ 125 ∷ []) cluster.0 ∙ simp append_assoc)

-- The fields of a line: which fields each step reads, and that it reads them again.
use Rattle.std.proofs.Common.{◌≡◌, ℕ, ◌-◌, ◌^◌, ◌<◌, ◌≤◌, List, [], ◌∷◌, Bool, true, false, eqb, cond, ℤ, Option, None, Some, option_map, codes, refl, sym, ap, subst, ◌∙◌, arith}
use Rattle.std.specs.Fmt.{decimal, signed_decimal}
use Rattle.std.specs.Int.{w64}
use Rattle.std.specs.Prelude.{⊤, FitsSigned}
use Rattle.std.proofs.lemmas.Bool.Decides.{nat_tests}
use Rattle.base64.specs.GeneralPurpose.{IsBytes}
use Rattle.kv_model.specs.declared.version.Rev.{Rev}
use Rattle.kv_model.specs.declared.version.Version.{Version}
use Rattle.kv_model.specs.declared.version.Body.TheVariants.{Put, Gone}
use Rattle.kv_model.specs.Certificates.{Claim, Need}
use Rattle.certificate_text.specs.Texts.{bytes_field, body_fields, IsRevision, IsRev, IsVersion}
use Rattle.certificate_text.specs.Reading.{◌>>=◌, number_of, most_revision, lease_of, decoded, bytes_of, next_by, revision_at, sub_at, rev_at, lease_at, bytes_at, end_at, alone, put_of, gone_of, claim_by}
use Rattle.certificate_text.proofs.Digits.{number_read, number_again, lease_read, lease_again}
use Rattle.certificate_text.proofs.Base64.{decoded_read, bytes_again}

-- ---- what a step came of

pub bind_some : {A B : Type 0} (o : Option A) (f : A → Option B) (y : B) → (o >>= f) ≡ Some y → (x : A) × (o ≡ Some x) × (f x ≡ Some y)
bind_some None f y e = cc e
bind_some (Some x) f y e = (x, refl, e)

-- and a step that is made
pub bind_on : {A B : Type 0} (o : Option A) (f : A → Option B) (x : A) (r : Option B) → o ≡ Some x → f x ≡ r → (o >>= f) ≡ r
bind_on o f x r e h = ap (λ o. o >>= f) e ∙ h

mapped : {A : Type 0} (o : Option A) (xs : List (List ℕ)) (x : A × List (List ℕ)) → option_map (λ a. (a, xs)) o ≡ Some x → (xs ≡ x.1) × (o ≡ Some x.0)
mapped None xs x e = cc e
mapped (Some a) xs x e = let same : (a, xs) ≡ x = cc e in (ap (λ p. p.1) same, ap (λ p. Some p.0) same)

-- what the next field was read by
next_read : {A : Type 0} (read : List ℕ → Option A) (xs : List (List ℕ)) (x : A × List (List ℕ)) → next_by read xs ≡ Some x
    → (field : List ℕ) × (xs ≡ field ∷ x.1) × (read field ≡ Some x.0)
next_read read [] x e = cc e
next_read read (field ∷ xs) x e = let found = mapped (read field) xs x e in (field, ap (λ rest. field ∷ rest) found.0, found.1)

-- ---- each step

pub revision_read : (xs : List (List ℕ)) (x : ℕ × List (List ℕ)) → revision_at xs ≡ Some x → (xs ≡ decimal x.0 ∷ x.1) × IsRevision x.0
unfolding revision_at
revision_read xs x e =
    let found = next_read (number_of most_revision) xs x e in
    let text = number_read most_revision x.0 found.0 (omega arith) found.2 in
    (found.1 ∙ ap (λ field. field ∷ x.1) text.0, omega (arith, text.1))

pub revision_again : (n : ℕ) (xs : List (List ℕ)) → IsRevision n → revision_at (decimal n ∷ xs) ≡ Some (n, xs)
unfolding revision_at
revision_again n xs h = ap (option_map (λ a. (a, xs))) (number_again most_revision n (omega arith) (omega (arith, h)))

sub_read : (xs : List (List ℕ)) (x : ℕ × List (List ℕ)) → sub_at xs ≡ Some x → (xs ≡ decimal x.0 ∷ x.1) × (x.0 < 2 ^ 64)
unfolding sub_at
sub_read xs x e =
    let found = next_read (number_of (2 ^ 64 - 1)) xs x e in
    let text = number_read (2 ^ 64 - 1) x.0 found.0 (omega arith) found.2 in
    (found.1 ∙ ap (λ field. field ∷ x.1) text.0, omega (arith, text.1))

sub_again : (n : ℕ) (xs : List (List ℕ)) → n < 2 ^ 64 → sub_at (decimal n ∷ xs) ≡ Some (n, xs)
unfolding sub_at
sub_again n xs h = ap (option_map (λ a. (a, xs))) (number_again (2 ^ 64 - 1) n (omega arith) (omega (arith, h)))

lease_field : (xs : List (List ℕ)) (x : ℤ × List (List ℕ)) → lease_at xs ≡ Some x → (xs ≡ signed_decimal x.0 ∷ x.1) × FitsSigned w64 x.0
unfolding lease_at
lease_field xs x e =
    let found = next_read lease_of xs x e in
    let text = lease_read found.0 x.0 found.2 in
    (found.1 ∙ ap (λ field. field ∷ x.1) text.0, text.1)

lease_field_again : (z : ℤ) (xs : List (List ℕ)) → FitsSigned w64 z → lease_at (signed_decimal z ∷ xs) ≡ Some (z, xs)
unfolding lease_at
lease_field_again z xs h = ap (option_map (λ a. (a, xs))) (lease_again z h)

colon_by : (x : ℕ) (xs bytes : List ℕ) (b : Bool) → eqb x 58 ≡ b → cond b (decoded xs) None ≡ Some bytes → (x ∷ xs ≡ bytes_field bytes) × IsBytes bytes
colon_by x xs bytes true is e =
    let text = decoded_read xs bytes e in
    let colon : x ≡ 58 = grind (arith, nat_tests) in
    ((λ i. colon i ∷ text.0 i), text.1)
colon_by x xs bytes false is e = cc e

bytes_by : (field bytes : List ℕ) → bytes_of field ≡ Some bytes → (field ≡ bytes_field bytes) × IsBytes bytes
bytes_by [] bytes e = cc e
bytes_by (x ∷ xs) bytes e = colon_by x xs bytes (eqb x 58) refl e

bytes_read : (xs : List (List ℕ)) (x : List ℕ × List (List ℕ)) → bytes_at xs ≡ Some x → (xs ≡ bytes_field x.0 ∷ x.1) × IsBytes x.0
unfolding bytes_at
bytes_read xs x e =
    let found = next_read bytes_of xs x e in
    let text = bytes_by found.0 x.0 found.2 in
    (found.1 ∙ ap (λ field. field ∷ x.1) text.0, text.1)

bytes_field_again : (bytes : List ℕ) (xs : List (List ℕ)) → IsBytes bytes → bytes_at (bytes_field bytes ∷ xs) ≡ Some (bytes, xs)
unfolding bytes_at
bytes_field_again bytes xs h = ap (option_map (λ a. (a, xs))) (bytes_again bytes h)

end_read : (xs : List (List ℕ)) (u : ⊤) → end_at xs ≡ Some u → xs ≡ []
unfolding end_at
end_read [] u e = refl
end_read (x ∷ xs) u e = cc e

end_again : end_at [] ≡ Some tt
unfolding end_at
end_again = refl

rev_read : (xs : List (List ℕ)) (x : Rev × List (List ℕ)) → rev_at xs ≡ Some x
    → (xs ≡ decimal x.0.main ∷ decimal x.0.sub ∷ x.1) × IsRev x.0
unfolding rev_at
rev_read xs x e =
    let main = bind_some (revision_at xs) _ x e in
    let sub = bind_some (sub_at main.0.1) _ x main.2 in
    let is : (record { main = main.0.0; sub = sub.0.0 }, sub.0.1) ≡ x = cc sub.2 in
    let first = revision_read xs main.0 main.1 in
    let second = sub_read main.0.1 sub.0 sub.1 in
    subst (λ y. (xs ≡ decimal y.0.main ∷ decimal y.0.sub ∷ y.1) × IsRev y.0) is
    (first.0 ∙ ap (λ rest. decimal main.0.0 ∷ rest) second.0, (first.1, second.1))

rev_again : (p : Rev) (xs : List (List ℕ)) → IsRev p → rev_at (decimal p.main ∷ decimal p.sub ∷ xs) ≡ Some (p, xs)
unfolding rev_at
rev_again p xs h =
    bind_on _ _ (p.main, decimal p.sub ∷ xs) _ (revision_again p.main (decimal p.sub ∷ xs) h.0)
    (bind_on _ _ (p.sub, xs) _ (sub_again p.sub xs h.1) refl)

-- ---- whole lines, behind their first word

pub put_read : (xs : List (List ℕ)) (v : Version) → put_of xs ≡ Some v → (codes "put" ∷ xs ≡ body_fields v.rev v.key v.body) × IsVersion v
unfolding put_of
put_read xs v e =
    let rev = bind_some (rev_at xs) _ v e in
    let key = bind_some (bytes_at rev.0.1) _ v rev.2 in
    let create = bind_some (revision_at key.0.1) _ v key.2 in
    let version = bind_some (revision_at create.0.1) _ v create.2 in
    let lease = bind_some (lease_at version.0.1) _ v version.2 in
    let value = bind_some (bytes_at lease.0.1) _ v lease.2 in
    let last = bind_some (end_at value.0.1) _ v value.2 in
    let at_rev = rev_read xs rev.0 rev.1 in
    let at_key = bytes_read rev.0.1 key.0 key.1 in
    let at_create = revision_read key.0.1 create.0 create.1 in
    let at_version = revision_read create.0.1 version.0 version.1 in
    let at_lease = lease_field version.0.1 lease.0 lease.1 in
    let at_value = bytes_read lease.0.1 value.0 value.1 in
    let at_end = end_read value.0.1 last.0 last.1 in
    let is : record { rev = rev.0.0; key = key.0.0; body = Put create.0.0 version.0.0 lease.0.0 value.0.0 } ≡ v = cc last.2 in
    subst (λ u. (codes "put" ∷ xs ≡ body_fields u.rev u.key u.body) × IsVersion u) is (
      ap (λ rest. codes "put" ∷ rest) (at_rev.0 ∙ ap (λ rest. decimal rev.0.0.main ∷ decimal rev.0.0.sub ∷ rest) (at_key.0
          ∙ ap (λ rest. bytes_field key.0.0 ∷ rest) (at_create.0 ∙ ap (λ rest. decimal create.0.0 ∷ rest) (at_version.0
          ∙ ap (λ rest. decimal version.0.0 ∷ rest) (at_lease.0 ∙ ap (λ rest. signed_decimal lease.0.0 ∷ rest) (at_value.0
          ∙ ap (λ rest. bytes_field value.0.0 ∷ rest) at_end)))))),
      (at_rev.1, at_key.1, (at_create.1, at_version.1, at_lease.1, at_value.1)),
    )

pub put_again : (p : Rev) (key : List ℕ) (create version : ℕ) (lease : ℤ) (value : List ℕ) → IsRev p → IsBytes key → IsRevision create → IsRevision version → FitsSigned w64 lease → IsBytes value
    → put_of (decimal p.main ∷ decimal p.sub ∷ bytes_field key ∷ decimal create ∷ decimal version ∷ signed_decimal lease ∷ bytes_field value ∷ [])
    ≡ Some (record { rev = p; key = key; body = Put create version lease value })
unfolding put_of
put_again p key create version lease value is_rev is_key is_create is_version is_lease is_value =
    let after_lease : List (List ℕ) = bytes_field value ∷ [] in
    let after_version : List (List ℕ) = signed_decimal lease ∷ after_lease in
    let after_create : List (List ℕ) = decimal version ∷ after_version in
    let after_key : List (List ℕ) = decimal create ∷ after_create in
    let after_rev : List (List ℕ) = bytes_field key ∷ after_key in
    bind_on _ _ (p, after_rev) _ (rev_again p after_rev is_rev)
    (bind_on _ _ (key, after_key) _ (bytes_field_again key after_key is_key)
    (bind_on _ _ (create, after_create) _ (revision_again create after_create is_create)
    (bind_on _ _ (version, after_version) _ (revision_again version after_version is_version)
    (bind_on _ _ (lease, after_lease) _ (lease_field_again lease after_lease is_lease)
    (bind_on _ _ (value, []) _ (bytes_field_again value [] is_value)
    (bind_on _ _ tt _ end_again refl))))))

pub gone_read : (xs : List (List ℕ)) (v : Version) → gone_of xs ≡ Some v → (codes "gone" ∷ xs ≡ body_fields v.rev v.key v.body) × IsVersion v
unfolding gone_of
gone_read xs v e =
    let rev = bind_some (rev_at xs) _ v e in
    let key = bind_some (bytes_at rev.0.1) _ v rev.2 in
    let last = bind_some (end_at key.0.1) _ v key.2 in
    let at_rev = rev_read xs rev.0 rev.1 in
    let at_key = bytes_read rev.0.1 key.0 key.1 in
    let at_end = end_read key.0.1 last.0 last.1 in
    let is : record { rev = rev.0.0; key = key.0.0; body = Gone } ≡ v = cc last.2 in
    subst (λ u. (codes "gone" ∷ xs ≡ body_fields u.rev u.key u.body) × IsVersion u) is (
      ap (λ rest. codes "gone" ∷ rest) (at_rev.0 ∙ ap (λ rest. decimal rev.0.0.main ∷ decimal rev.0.0.sub ∷ rest) (at_key.0
          ∙ ap (λ rest. bytes_field key.0.0 ∷ rest) at_end)),
      (at_rev.1, at_key.1, tt),
    )

pub gone_again : (p : Rev) (key : List ℕ) → IsRev p → IsBytes key
    → gone_of (decimal p.main ∷ decimal p.sub ∷ bytes_field key ∷ []) ≡ Some (record { rev = p; key = key; body = Gone })
unfolding gone_of
gone_again p key is_rev is_key =
    bind_on _ _ (p, bytes_field key ∷ []) _ (rev_again p (bytes_field key ∷ []) is_rev)
    (bind_on _ _ (key, []) _ (bytes_field_again key [] is_key) (bind_on _ _ tt _ end_again refl))

pub claim_read : (need : ℕ → Need) (xs : List (List ℕ)) (claim : Claim) → claim_by need xs ≡ Some claim
    → (r : ℕ) × (claim ≡ record { rev = claim.rev; need = need r }) × (xs ≡ decimal claim.rev.main ∷ decimal claim.rev.sub ∷ decimal r ∷ []) × IsRev claim.rev × IsRevision r
unfolding claim_by
claim_read need xs claim e =
    let rev = bind_some (rev_at xs) _ claim e in
    let r = bind_some (revision_at rev.0.1) _ claim rev.2 in
    let last = bind_some (end_at r.0.1) _ claim r.2 in
    let at_rev = rev_read xs rev.0 rev.1 in
    let at_r = revision_read rev.0.1 r.0 r.1 in
    let at_end = end_read r.0.1 last.0 last.1 in
    let is : record { rev = rev.0.0; need = need r.0.0 } ≡ claim = cc last.2 in
    subst (λ u. (n : ℕ) × (u ≡ record { rev = u.rev; need = need n }) × (xs ≡ decimal u.rev.main ∷ decimal u.rev.sub ∷ decimal n ∷ []) × IsRev u.rev × IsRevision n) is
    (r.0.0, refl, at_rev.0 ∙ ap (λ rest. decimal rev.0.0.main ∷ decimal rev.0.0.sub ∷ rest) (at_r.0 ∙ ap (λ rest. decimal r.0.0 ∷ rest) at_end), at_rev.1, at_r.1)

pub claim_again : (need : ℕ → Need) (p : Rev) (r : ℕ) → IsRev p → IsRevision r
    → claim_by need (decimal p.main ∷ decimal p.sub ∷ decimal r ∷ []) ≡ Some (record { rev = p; need = need r })
unfolding claim_by
claim_again need p r is_rev is_r =
    bind_on _ _ (p, decimal r ∷ []) _ (rev_again p (decimal r ∷ []) is_rev)
    (bind_on _ _ (r, []) _ (revision_again r [] is_r) (bind_on _ _ tt _ end_again refl))

pub alone_read : (xs : List (List ℕ)) (n : ℕ) → alone xs ≡ Some n → (xs ≡ decimal n ∷ []) × IsRevision n
unfolding alone
alone_read xs n e =
    let number = bind_some (revision_at xs) _ n e in
    let last = bind_some (end_at number.0.1) _ n number.2 in
    let at_number = revision_read xs number.0 number.1 in
    let at_end = end_read number.0.1 last.0 last.1 in
    let is : number.0.0 ≡ n = cc last.2 in
    subst (λ m. (xs ≡ decimal m ∷ []) × IsRevision m) is (at_number.0 ∙ ap (λ rest. decimal number.0.0 ∷ rest) at_end, at_number.1)

pub alone_again : (n : ℕ) → IsRevision n → alone (decimal n ∷ []) ≡ Some n
unfolding alone
alone_again n h = bind_on _ _ (n, []) _ (revision_again n [] h) (bind_on _ _ tt _ end_again refl)

-- What a walk has come to at its end, and one step of a walk from the back.
use Rattle.std.proofs.Common.{◌≡◌, ◌⊎◌, inl, inr, ℕ, length, List, [], ◌∷◌, ◌++◌, drop, filter_map, get_or, reverse, Option, None, refl, sym, ◌∙◌, ap, subst, ◌<◌, ◌≤◌, ◌+◌}
use Rattle.std.specs.List.{AllByRecursion, push}
use Rattle.std.proofs.lemmas.List.{append_assoc, append-nil, drop_all, at_drop_more, reverse-append}
use Rattle.kv_model.specs.declared.version.Version.{Version}
use Rattle.kv_model.specs.Certificates.{Dump, Claim}
use Rattle.kv_model.specs.Certificates.{claim_of, claims_of}
use Rattle.witness_core.specs.Walks.{first_twin, walked, left_over}

-- one of two lists has ended
pub either : {S T X Y : Type 0} {P : S → Type 0} {Q : T → Type 0} → ((u : S) × (X × P u)) ⊎ ((u : T) × (Y × Q u)) → X ⊎ Y
either (inl p) = inl p.1.0
either (inr p) = inr p.1.0

pub no-twin-left : (vs : List Version) (ns : List (Option ℕ)) → (length vs ≡ 0) ⊎ (length ns ≡ 0) → None ≡ first_twin vs ns
no-twin-left [] ns e = refl
no-twin-left (v ∷ vs) [] e = refl
no-twin-left (v ∷ vs) (n ∷ ns) (inl e) = cc
no-twin-left (v ∷ vs) (n ∷ ns) (inr e) = cc

pub no-version-left : (d : Dump) (vs : List Version) (ns : List (Option ℕ)) (claims : List Claim) → (length vs ≡ 0) ⊎ (length ns ≡ 0)
    → walked d vs ns claims ≡ left_over claims
no-version-left d [] ns claims e = refl
no-version-left d (v ∷ vs) [] claims e = refl
no-version-left d (v ∷ vs) (n ∷ ns) claims (inl e) = cc
no-version-left d (v ∷ vs) (n ∷ ns) claims (inr e) = cc

pub one-more : (vs before done rest : List Version) (v : Version) → vs ≡ before ++ done → before ≡ push rest v → vs ≡ rest ++ v ∷ done
one-more vs before done rest v e f = e ∙ ap (λ us. us ++ done) f ∙ append_assoc rest (v ∷ []) done

pub turned : {X : Type 0} (x : X) (xs : List X) → reverse (x ∷ xs) ≡ reverse xs ++ x ∷ []
turned x xs = reverse-append (x ∷ []) xs

-- what holds of those that are left, and so of all, holds of this one
pub one-holds : (P : Version → Type 0) (vs : List Version) (i : ℕ) (d : Version) → i < length vs
    → (AllByRecursion P (drop i vs) → AllByRecursion P vs) → P (get_or vs i d) → AllByRecursion P (drop (i + 1) vs) → AllByRecursion P vs
one-holds P vs i d low all here rest = all (subst (AllByRecursion P) (sym (at_drop_more (λ us. us) vs i d low)) (here, rest))

pub all-hold : (P : Version → Type 0) (vs : List Version) (i : ℕ) → length vs ≤ i → (AllByRecursion P (drop i vs) → AllByRecursion P vs)
    → AllByRecursion P vs
all-hold P vs i high all = all (subst (AllByRecursion P) (sym (drop_all i vs high)) tt)

pub all-claimed : (d : Dump) (rest : List Version) (claims : List Claim) → rest ≡ []
    → claims ++ filter_map (claim_of d) rest ≡ filter_map (claim_of d) d.versions → claims ≡ claims_of d
unfolding claims_of
all-claimed d rest claims none inv =
    sym (append-nil claims) ∙ sym (ap (λ us. claims ++ filter_map (claim_of d) us) none) ∙ inv

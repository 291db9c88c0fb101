-- The first match among versions that rise.
use Rattle.std.proofs.Common.{◌≡◌, ℕ, List, [], ◌∷◌, length, filter, Bool, true, false, ◌&&◌, ◌==◌, cond}
use Rattle.std.proofs.Common.{Some, option_map, refl, sym, ◌∙◌, ap, arith}
use Rattle.std.proofs.lemmas.Bool.Decides.{nat_tests}
use Rattle.std.specs.Prelude.{nat_le}
use Rattle.std.specs.List.{find}
use Rattle.kv_model.specs.declared.version.Version.{Version}
use Rattle.kv_model.specs.declared.call.Watched.{Watched}
use Rattle.kv_model.specs.declared.version.KeyRange.{KeyRange}
use Rattle.kv_model.specs.Keys.{in_range, key_le, key_lt, same_key, zero_byte}
use Rattle.kv_model.specs.Lists.{is_empty}
use Rattle.kv_model.specs.Watches.{matches, wants}
use Rattle.store_laws.specs.Stands.{first_main_of}
use Rattle.range_view.proofs.OneKey.{filter-both}

-- ---- the first that passes a test

pub first-found : (p : Version → Bool) (vs : List Version) → first_main_of (filter p vs) ≡ option_map (λ v. v.rev.main) (find p vs)
first-found p [] = refl
first-found p (v ∷ vs) = by (p v) (first-found p vs)
  where
    by : (b : Bool) → first_main_of (filter p vs) ≡ option_map (λ v. v.rev.main) (find p vs)
        → first_main_of (cond b (v ∷ filter p vs) (filter p vs)) ≡ option_map (λ v. v.rev.main) (cond b (Some v) (find p vs))
    by true e = refl
    by false e = e

-- ---- those from a revision on

and-turn : (a b : Bool) → (a && b) ≡ (b && a)
and-turn true true = refl
and-turn true false = refl
and-turn false true = refl
and-turn false false = refl

pub filter-from : (next : ℕ) (q : Version → Bool) (vs : List Version)
    → filter q (filter (λ v. nat_le next v.rev.main) vs) ≡ filter (λ v. nat_le next v.rev.main && q v) vs
filter-from next q vs = filter-both q (λ v. nat_le next v.rev.main) vs ∙ (λ i. filter (λ v. and-turn (q v) (nat_le next v.rev.main) i) vs)

-- ---- a watch of one key

-- in a range of the one key
once : (n r w : Bool) → ((r && w) && (n && r)) ≡ (n && (r && w))
once n true true = refl
once true true false = refl
once false true false = refl
once true false w = refl
once false false w = refl

-- among the versions of the key all that it matches are found
pub filter-key : (next : ℕ) (w : Watched) (k : List ℕ) → ((j : List ℕ) → same_key j k ≡ in_range w.range j) → (vs : List Version)
    → filter (matches w) (filter (λ v. nat_le next v.rev.main && same_key v.key k) vs)
    ≡ filter (λ v. nat_le next v.rev.main && matches w v) vs
filter-key next w k h vs =
    (λ i. filter (matches w) (filter (λ v. nat_le next v.rev.main && h v.key i) vs))
    ∙ filter-both (matches w) (λ v. nat_le next v.rev.main && in_range w.range v.key) vs
    ∙ (λ i. filter (λ v. once (nat_le next v.rev.main) (in_range w.range v.key) (wants w v.body) i) vs)

-- a range without an end has its key alone
pub one-key : (r : KeyRange) → is_empty r.end ≡ true → (j : List ℕ) → same_key j r.key ≡ in_range r j
one-key r e j = sym (ap (λ b. cond b (same_key j r.key) (beyond r j)) e)
  where
    beyond : KeyRange → List ℕ → Bool
    beyond s k = cond (same_key s.end zero_byte && same_key s.key zero_byte) true
        (cond (same_key s.end zero_byte) (key_le s.key k) (key_le s.key k && key_lt k s.end))

pub length-empty : (k : List ℕ) → (length k == 0) ≡ is_empty k
length-empty [] = refl
length-empty (x ∷ xs) = grind (arith, nat_tests)

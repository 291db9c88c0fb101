-- Behind changes of keys of a range alone every other key holds what it held.
use Rattle.std.proofs.Common.{◌≡◌, ℕ, zero, suc, ◌<◌, ◌≤◌, List, [], ◌∷◌, filter, Bool, true, false, not, ◌&&◌, cond, nat_le, nat_lt}
use Rattle.std.proofs.Common.{option_and_then, refl, sym, ◌∙◌, ap, arith}
use Rattle.std.specs.List.{AllByRecursion, list_any}
use Rattle.std.specs.declared.cmp.Ordering.{Ordering}
use Rattle.std.specs.declared.cmp.Ordering.TheVariants.{Less, Equal, Greater}
use Rattle.std.specs.Ordering.{nat_cmp, ordering_then, is_le, MatchOrdering}
use Rattle.std.specs.Cmp.{ranks}
use Rattle.std.proofs.lemmas.Bool.{or_parts}
use Rattle.std.proofs.lemmas.Bool.Decides.{nat_tests}
use Rattle.kv_model.specs.declared.version.Rev.{Rev}
use Rattle.kv_model.specs.declared.version.Version.{Version}
use Rattle.kv_model.specs.declared.version.KeyRange.{KeyRange}
use Rattle.kv_model.specs.Keys.{same_key, in_range}
use Rattle.kv_model.specs.History.{key_value, rev_le, value_at}
use Rattle.kv_model.specs.Txns.{place_before}
use Rattle.store_laws.proofs.HistoryLaws.{same_key-eq}
use Rattle.store_laws.proofs.PlaceLaws.{last_that-same}
use Rattle.txn_core.specs.Known.{strays}
use Rattle.txn_core.proofs.Staying.{rev_le-sub, of-main}

-- what stands behind a place of a revision, and by a later one of it, is numbered between them
between : (u : Rev) (main s n : ℕ) → nat_le main u.main ≡ true → rev_le u (record { main = main; sub = s }) ≡ false
    → rev_le u (record { main = main; sub = n }) ≡ true → (s < u.sub) × (u.sub ≤ n)
between u main s n m f t = by (nat_cmp u.main main) (ranks u.main main) (nat_cmp u.sub s) (ranks u.sub s) (nat_cmp u.sub n) (ranks u.sub n) f t
  where
    from : main ≤ u.main
    from = grind (arith, nat_tests)

    by : (o : Ordering) → MatchOrdering o (u.main < main) (u.main ≡ main) (main < u.main)
        → (a : Ordering) → MatchOrdering a (u.sub < s) (u.sub ≡ s) (s < u.sub)
        → (b : Ordering) → MatchOrdering b (u.sub < n) (u.sub ≡ n) (n < u.sub)
        → is_le (ordering_then o a) ≡ false → is_le (ordering_then o b) ≡ true → (s < u.sub) × (u.sub ≤ n)
    by Less h a i b j e g = absurd (omega (arith, from, h))
    by Equal h Less i b j e g = cc
    by Equal h Equal i b j e g = cc
    by Equal h Greater i Less j e g = (i, omega (arith, j))
    by Equal h Greater i Equal j e g = (i, omega (arith, j))
    by Equal h Greater i Greater j e g = cc
    by Greater h a i b j e g = cc

-- a version of another key is seen at both places, or at none
seen-same : (main s n : ℕ) (r : KeyRange) (k : List ℕ) (u : Version) → s ≤ n
    → (nat_le main u.rev.main ≡ true → strays r (suc s) (suc n) u ≡ false) → in_range r k ≡ false
    → (same_key u.key k && rev_le u.rev (record { main = main; sub = n })) ≡ (same_key u.key k && rev_le u.rev (record { main = main; sub = s }))
seen-same main s n r k u l h i = by (same_key u.key k) refl (rev_le u.rev (record { main = main; sub = s })) refl
    (rev_le u.rev (record { main = main; sub = n })) refl
  where
    stray : (x y z : Bool) → x ≡ true → y ≡ true → z ≡ false → (x && y && not z) ≡ true
    stray true true false a b c = refl
    stray false y z a b c = cc
    stray x false z a b c = cc
    stray x y true a b c = cc

    by : (t : Bool) → same_key u.key k ≡ t → (a : Bool) → rev_le u.rev (record { main = main; sub = s }) ≡ a
        → (b : Bool) → rev_le u.rev (record { main = main; sub = n }) ≡ b → (t && b) ≡ (t && a)
    by false d a e b f = refl
    by true d true e true f = refl
    by true d false e false f = refl
    by true d true e false f = let bad : true ≡ false = sym (rev_le-sub u.rev main s n l e) ∙ f in cc
    by true d false e true f =
        let later : nat_le main u.rev.main ≡ true = of-main u.rev main s e in
        let lies : (s < u.rev.sub) × (u.rev.sub ≤ n) = between u.rev main s n later e f in
        let low : s < u.rev.sub = lies.0 in
        let high : u.rev.sub ≤ n = lies.1 in
        let from : nat_le (suc s) u.rev.sub ≡ true = grind (arith, nat_tests) in
        let to : nat_lt u.rev.sub (suc n) ≡ true = grind (arith, nat_tests) in
        let out : in_range r u.key ≡ false = ap (in_range r) (same_key-eq u.key k d) ∙ i in
        let bad : true ≡ false = sym (stray (nat_le (suc s) u.rev.sub) (nat_lt u.rev.sub (suc n)) (in_range r u.key) from to out) ∙ h later in
        cc

-- none of the versions of a revision on strays
each-kept : (main : ℕ) (p : Version → Bool) (vs : List Version) → list_any p (filter (λ v. nat_le main v.rev.main) vs) ≡ false
    → AllByRecursion (λ v. nat_le main v.rev.main ≡ true → p v ≡ false) vs
each-kept main p [] h = tt
each-kept main p (v ∷ vs) h = by (nat_le main v.rev.main) refl h (each-kept main p vs)
  where
    by : (b : Bool) → nat_le main v.rev.main ≡ b
        → list_any p (cond b (v ∷ filter (λ v. nat_le main v.rev.main) vs) (filter (λ v. nat_le main v.rev.main) vs)) ≡ false
        → (list_any p (filter (λ v. nat_le main v.rev.main) vs) ≡ false → AllByRecursion (λ v. nat_le main v.rev.main ≡ true → p v ≡ false) vs)
        → AllByRecursion (λ v. nat_le main v.rev.main ≡ true → p v ≡ false) (v ∷ vs)
    by true e g more =
        let parts = or_parts (p v) (list_any p (filter (λ v. nat_le main v.rev.main) vs)) g in ((λ a. parts.0), more parts.1)
    by false e g more = ((λ a. let bad : true ≡ false = sym a ∙ e in cc), more g)

all-same : (main s n : ℕ) (r : KeyRange) (k : List ℕ) → s ≤ n → in_range r k ≡ false → (vs : List Version)
    → AllByRecursion (λ v. nat_le main v.rev.main ≡ true → strays r (suc s) (suc n) v ≡ false) vs
    → AllByRecursion (λ u. (same_key u.key k && rev_le u.rev (record { main = main; sub = n }))
    ≡ (same_key u.key k && rev_le u.rev (record { main = main; sub = s }))) vs
all-same main s n r k l i [] h = tt
all-same main s n r k l i (v ∷ vs) h = (seen-same main s n r k v l h.0 i, all-same main s n r k l i vs h.1)

pub beside-same : (vs : List Version) (main sub next : ℕ) (r : KeyRange) (k : List ℕ) → 0 < sub → sub ≤ next
    → list_any (strays r sub next) (filter (λ v. nat_le main v.rev.main) vs) ≡ false → in_range r k ≡ false
    → value_at vs (place_before main next) k ≡ value_at vs (place_before main sub) k
unfolding value_at
beside-same vs main zero next r k l m h i = absurd (omega arith)
beside-same vs main (suc s) zero r k l m h i = absurd (omega arith)
beside-same vs main (suc s) (suc n) r k l m h i = ap (option_and_then key_value)
    (last_that-same (λ u. same_key u.key k && rev_le u.rev (record { main = main; sub = n }))
    (λ u. same_key u.key k && rev_le u.rev (record { main = main; sub = s })) vs
    (all-same main s n r k (omega arith) i vs (each-kept main (strays r (suc s) (suc n)) vs h)))

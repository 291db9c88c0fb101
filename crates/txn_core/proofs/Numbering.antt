-- Changes that are numbered on, and those of them from one number on, up to another.
use Rattle.std.proofs.Common.{◌≡◌, ℕ, zero, suc, ◌+◌, ◌-◌, ◌<◌, ◌≤◌, List, [], ◌∷◌, ◌++◌, length, map, take, drop, Bool, true, false, not}
use Rattle.std.proofs.Common.{◌&&◌, ◌||◌, nat_le, nat_lt, Bor, refl, sym, ◌∙◌, ap, arith}
use Rattle.std.specs.List.{list_all, list_any}
use Rattle.std.proofs.lemmas.Bool.{and_parts}
use Rattle.std.proofs.lemmas.Bool.Decides.{nat_tests}
use Rattle.kv_model.specs.declared.version.Version.{Version}
use Rattle.kv_model.specs.declared.version.KeyRange.{KeyRange}
use Rattle.kv_model.specs.Keys.{in_range}
use Rattle.txn_core.specs.Known.{AreNumbered, strays}

pub numbered-snoc : (n : ℕ) (ws : List (Bor Version)) (v : Bor Version) → AreNumbered n ws → v.now.rev.sub ≡ n + length ws → AreNumbered n (ws ++ v ∷ [])
numbered-snoc n [] v h e = (omega (arith, e), tt)
numbered-snoc n (w ∷ ws) v h e = (h.0, numbered-snoc (suc n) ws v h.1 (omega (arith, e)))

all-none : {X : Type 0} (p : X → Bool) (i k : ℕ) (xs : List X) → k ≡ 0 → list_all p (drop i (take k xs)) ≡ true
all-none p zero k xs e = ap (λ n. list_all p (take n xs)) e
all-none p (suc i) k xs e = ap (λ n. list_all p (drop (suc i) (take n xs))) e

-- a change strays only if it is numbered so, and its key is not of the range
strays-not : (r : KeyRange) (sub next : ℕ) (v : Version) (m : ℕ) (a b c : Bool) → v.rev.sub ≡ m → nat_le sub m ≡ a → nat_lt m next ≡ b
    → in_range r v.key ≡ c → (a && b && not c) ≡ false → strays r sub next v ≡ false
strays-not r sub next v m a b c is e f g h = (λ i. nat_le sub (is i) && nat_lt (is i) next && not (in_range r v.key))
    ∙ (λ i. e i && f i && not (g i)) ∙ h

none-strays : (r : KeyRange) (ws : List (Bor Version)) (m sub next : ℕ) → AreNumbered m ws
    → list_all (λ v. in_range r v.now.key) (drop (sub - m) (take (next - m) ws)) ≡ true
    → list_any (strays r sub next) (map (λ v. v.now) ws) ≡ false
none-strays r [] m sub next h e = refl
none-strays r (w ∷ ws) m sub next h e = by (nat_lt m next) refl (nat_le sub m) refl (none-strays r ws (suc m) sub next h.1)
  where
    inside : Bor Version → Bool
    inside v = in_range r v.now.key

    and-none : (a c : Bool) → (a && false && not c) ≡ false
    and-none true c = refl
    and-none false c = refl

    by : (b : Bool) → nat_lt m next ≡ b → (a : Bool) → nat_le sub m ≡ a
        → (list_all inside (drop (sub - suc m) (take (next - suc m) ws)) ≡ true → list_any (strays r sub next) (map (λ v. v.now) ws) ≡ false)
        → (strays r sub next w.now || list_any (strays r sub next) (map (λ v. v.now) ws)) ≡ false
    by false f a g more =
        let past : next ≤ m = grind (arith, nat_tests) in
        let none : next - suc m ≡ 0 = omega (arith, past) in
        let rest = more (all-none inside (sub - suc m) (next - suc m) ws none) in
        let here : strays r sub next w.now ≡ false
        = strays-not r sub next w.now m a false (in_range r w.now.key) h.0 g f refl (and-none a (in_range r w.now.key)) in
        λ i. here i || rest i
    by true f true g more =
        let low : sub ≤ m = grind (arith, nat_tests) in
        let high : m < next = grind (arith, nat_tests) in
        let first : sub - m ≡ 0 = omega (arith, low) in
        let later : sub - suc m ≡ 0 = omega (arith, low) in
        let one : next - m ≡ suc (next - suc m) = omega (arith, high) in
        let both : (inside w && list_all inside (take (next - suc m) ws)) ≡ true
        = sym (λ i. list_all inside (drop (first i) (take (one i) (w ∷ ws)))) ∙ e in
        let parts = and_parts (inside w) (list_all inside (take (next - suc m) ws)) both in
        let rest = more (ap (λ n. list_all inside (drop n (take (next - suc m) ws))) later ∙ parts.1) in
        let here : strays r sub next w.now ≡ false = strays-not r sub next w.now m true true true h.0 g f parts.0 refl in
        λ i. here i || rest i
    by true f false g more =
        let low : m < sub = grind (arith, nat_tests) in
        let high : m < next = grind (arith, nat_tests) in
        let first : sub - m ≡ suc (sub - suc m) = omega (arith, low) in
        let one : next - m ≡ suc (next - suc m) = omega (arith, high) in
        let rest = more (sym (λ i. list_all inside (drop (first i) (take (one i) (w ∷ ws)))) ∙ e) in
        let here : strays r sub next w.now ≡ false
        = strays-not r sub next w.now m false true (in_range r w.now.key) h.0 g f refl refl in
        λ i. here i || rest i

take-nil : {X : Type 0} (n : ℕ) (xs : List X) → xs ≡ [] → take n xs ≡ []
take-nil zero xs e = refl
take-nil (suc n) xs e = ap (take (suc n)) e

-- what stands from one place on, up to another
take-from : {X : Type 0} (a b : ℕ) (xs : List X) → take (b - a) (drop a xs) ≡ drop a (take b xs)
take-from zero b xs = let e : b - 0 ≡ b = omega arith in ap (λ n. take n xs) e
take-from (suc a) zero xs = let e : 0 - suc a ≡ 0 = omega arith in ap (λ n. take n (drop (suc a) xs)) e
take-from (suc a) (suc b) [] = take-nil (suc b - suc a) [] refl
take-from (suc a) (suc b) (x ∷ xs) = let e : suc b - suc a ≡ b - a = omega arith in ap (λ n. take n (drop a xs)) e ∙ take-from a b xs

pub none-between : (r : KeyRange) (ws : List (Bor Version)) (sub next : ℕ) → AreNumbered 0 ws
    → list_all (λ v. in_range r v.now.key) (take (next - sub) (drop sub ws)) ≡ true
    → list_any (strays r sub next) (map (λ v. v.now) ws) ≡ false
none-between r ws sub next h e =
    let from : sub - 0 ≡ sub = omega arith in
    let to : next - 0 ≡ next = omega arith in
    none-strays r ws 0 sub next h ((λ i. list_all (λ v. in_range r v.now.key) (drop (from i) (take (to i) ws)))
    ∙ sym (ap (list_all (λ v. in_range r v.now.key)) (take-from sub next ws)) ∙ e)

-- Where each operation touches no key that is put but its own, nothing clashes, in whichever branch it stands.
use Rattle.std.proofs.Common.{◌≡◌, ℕ, ◌+◌, ◌≤◌, List, [], ◌∷◌, ◌++◌, map, Bool, true, false, not, ◌&&◌, ◌||◌, nat_eq, refl, sym, ◌∙◌, ap, subst, arith}
use Rattle.std.specs.List.{AllByRecursion, list_any}
use Rattle.std.proofs.lemmas.Bool.{or_parts}
use Rattle.std.proofs.lemmas.Bool.Decides.{nat_tests}
use Rattle.std.proofs.lemmas.List.{append_assoc}
use Rattle.kv_model.specs.declared.version.KeyRange.{KeyRange}
use Rattle.kv_model.specs.Keys.{same_key, in_range}
use Rattle.kv_model.specs.Calls.{Ops}
use Rattle.kv_model.specs.Txns.{Touch, collides, touches, any_collide, clashes}
use Rattle.store_laws.proofs.HistoryLaws.{AllByRecursion-split}
use Rattle.store_laws.proofs.KeyLaws.{same-refl}
use Rattle.store_laws.proofs.TouchLaws.{IsClear}
use Rattle.txn_core.specs.declared.touched.Touched.{Touched}
use Rattle.txn_core.specs.Touching.{bit, keys_put, count_touched, meets_none, own_of, touches_others}
use Rattle.txn_core.specs.Views.{touch_view}
use Rattle.txn_core.proofs.Clashing.{AreApart, apart-alone, count-append}

-- ---- by counting

bit-none : (b : Bool) (n : ℕ) → bit b + n ≤ 0 → b ≡ false
bit-none true n h = absurd (omega arith)
bit-none false n h = refl

-- each touches no more of these keys than it puts
abbrev AreAlone : List (List ℕ) → List Touch → Type 0
AreAlone ks ts = AllByRecursion (λ t. count_touched t ks ≤ own_of t) ts

-- a delete whose range has none of the keys that are put
clear-each : (r : KeyRange) (ts : List Touch) → count_touched (Touch.each r) (keys_put ts) ≤ 0 → IsClear (Touch.each r) ts
clear-each r [] h = tt
clear-each r (Touch.one k ∷ ts) h =
    let both : bit (in_range r k) + count_touched (Touch.each r) (keys_put ts) ≤ 0 = h in
    let rest : count_touched (Touch.each r) (keys_put ts) ≤ 0 = omega (arith, both) in
    (bit-none (in_range r k) (count_touched (Touch.each r) (keys_put ts)) both, clear-each r ts rest)
clear-each r (Touch.each s ∷ ts) h = (refl, clear-each r ts h)

-- a put of a key that no other puts, and that lies in no range that is deleted
clear-one : (k : List ℕ) (ks : List (List ℕ)) (ts : List Touch) → count_touched (Touch.one k) (keys_put ts) ≤ 0
    → ((t : Touch) → bit (collides t (Touch.one k)) ≤ count_touched t ks) → AreAlone ks ts → IsClear (Touch.one k) ts
clear-one k ks [] h m a = tt
clear-one k ks (Touch.one l ∷ ts) h m a =
    let both : bit (same_key k l) + count_touched (Touch.one k) (keys_put ts) ≤ 0 = h in
    let rest : count_touched (Touch.one k) (keys_put ts) ≤ 0 = omega (arith, both) in
    (bit-none (same_key k l) (count_touched (Touch.one k) (keys_put ts)) both, clear-one k ks ts rest m a.1)
clear-one k ks (Touch.each r ∷ ts) h m a =
    let least : bit (in_range r k) ≤ count_touched (Touch.each r) ks = m (Touch.each r) in
    let none : count_touched (Touch.each r) ks ≤ 0 = a.0 in
    let both : bit (in_range r k) + 0 ≤ 0 = omega (arith, least, none) in
    (bit-none (in_range r k) 0 both, clear-one k ks ts h m a.1)

apart : (ks : List (List ℕ)) (ts : List Touch) → ((t : Touch) → count_touched t (keys_put ts) ≤ count_touched t ks) → AreAlone ks ts → AreApart ts
apart ks [] h a = tt
apart ks (Touch.one k ∷ ts) h a =
    let one : bit (same_key k k) ≡ 1 = ap bit (same-refl k) in
    let own : bit (same_key k k) + count_touched (Touch.one k) (keys_put ts) ≤ count_touched (Touch.one k) ks = h (Touch.one k) in
    let alone : count_touched (Touch.one k) ks ≤ 1 = a.0 in
    let none : count_touched (Touch.one k) (keys_put ts) ≤ 0 = omega (arith, one, own, alone) in (
      clear-one k ks ts none (λ t. first k t (h t)) a.1,
      apart ks ts (λ t. rest k t (h t)) a.1,
    )
  where
    first : (k : List ℕ) (t : Touch) → bit (collides t (Touch.one k)) + count_touched t (keys_put ts) ≤ count_touched t ks
        → bit (collides t (Touch.one k)) ≤ count_touched t ks
    first k t l = omega (arith, l)

    rest : (k : List ℕ) (t : Touch) → bit (collides t (Touch.one k)) + count_touched t (keys_put ts) ≤ count_touched t ks
        → count_touched t (keys_put ts) ≤ count_touched t ks
    rest k t l = omega (arith, l)
apart ks (Touch.each r ∷ ts) h a =
    let all : count_touched (Touch.each r) (keys_put ts) ≤ count_touched (Touch.each r) ks = h (Touch.each r) in
    let none : count_touched (Touch.each r) ks ≤ 0 = a.0 in
    (clear-each r ts (omega (arith, all, none)), apart ks ts h a.1)

-- ---- nothing clashes

any-false : {X : Type 0} (p : X → Bool) (xs : List X) → AllByRecursion (λ x. p x ≡ false) xs → list_any p xs ≡ false
any-false p [] h = refl
any-false p (x ∷ xs) h = λ i. h.0 i || any-false p xs h.1 i

apart-first : (ts us : List Touch) → AreApart (ts ++ us) → AreApart ts
apart-first [] us a = tt
apart-first (t ∷ ts) us a = ((AllByRecursion-split (λ u. collides t u ≡ false) ts us a.0).0, apart-first ts us a.1)

apart-last : (ts us : List Touch) → AreApart (ts ++ us) → AreApart us
apart-last [] us a = a
apart-last (t ∷ ts) us a = apart-last ts us a.1

apart-none : (ts us : List Touch) → AreApart (ts ++ us) → any_collide ts us ≡ false
apart-none [] us a = refl
apart-none (t ∷ ts) us a =
    let here : list_any (collides t) us ≡ false = any-false (collides t) us (AllByRecursion-split (λ u. collides t u ≡ false) ts us a.0).1 in
    let rest : any_collide ts us ≡ false = apart-none ts us a.1 in
    λ i. here i || rest i

apart-clashes : (ops : Ops) → AreApart (touches ops) → clashes ops ≡ false
unfolding clashes
apart-clashes Ops.no_ops a = refl
apart-clashes (Ops.range q rest) a = apart-clashes rest a
apart-clashes (Ops.put p rest) a =
    let here : list_any (collides (Touch.one p.key)) (touches rest) ≡ false = any-false (collides (Touch.one p.key)) (touches rest) a.0 in
    let behind : clashes rest ≡ false = apart-clashes rest a.1 in
    λ i. here i || behind i
apart-clashes (Ops.delete d rest) a =
    let here : list_any (collides (Touch.each d.range)) (touches rest) ≡ false = any-false (collides (Touch.each d.range)) (touches rest) a.0 in
    let behind : clashes rest ≡ false = apart-clashes rest a.1 in
    λ i. here i || behind i
apart-clashes (Ops.txn cs s f rest) a =
    let both : AreApart (touches s ++ touches f) = apart-first (touches s ++ touches f) (touches rest) a in
    let here : any_collide (touches s ++ touches f) (touches rest) ≡ false = apart-none (touches s ++ touches f) (touches rest) a in
    let first : clashes s ≡ false = apart-clashes s (apart-first (touches s) (touches f) both) in
    let second : clashes f ≡ false = apart-clashes f (apart-last (touches s) (touches f) both) in
    let behind : clashes rest ≡ false = apart-clashes rest (apart-last (touches s ++ touches f) (touches rest) a) in
    λ i. ((here i || first i) || second i) || behind i

-- ---- as it is counted

alone : (ks : List (List ℕ)) (ts : List Touched) → list_any (λ t. touches_others ks (touch_view t)) ts ≡ false → AreAlone ks (map touch_view ts)
alone ks [] h = tt
alone ks (t ∷ ts) h = by (nat_eq (count_touched (touch_view t) ks) (own_of (touch_view t))) refl h (alone ks ts)
  where
    by : (b : Bool) → nat_eq (count_touched (touch_view t) ks) (own_of (touch_view t)) ≡ b
        → (not b || list_any (λ t. touches_others ks (touch_view t)) ts) ≡ false
        → (list_any (λ t. touches_others ks (touch_view t)) ts ≡ false → AreAlone ks (map touch_view ts)) → AreAlone ks (map touch_view (t ∷ ts))
    by true e f g =
        let m : ℕ = count_touched (touch_view t) ks in
        let n : ℕ = own_of (touch_view t) in
        let same : nat_eq m n ≡ true = e in
        (grind (arith, nat_tests), g f)
    by false e f g = cc

-- none touches a key that another puts
none-clear : (t : Touch) (ts : List Touch) → list_any (collides t) ts ≡ false → IsClear t ts
none-clear t [] h = tt
none-clear t (u ∷ ts) h = let parts = or_parts (collides t u) (list_any (collides t) ts) h in (parts.0, none-clear t ts parts.1)

meets-apart : (ts : List Touch) → meets_none ts ≡ true → AreApart ts
meets-apart [] h = tt
meets-apart (t ∷ ts) h = by (list_any (collides t) ts) refl h (meets-apart ts)
  where
    by : (b : Bool) → list_any (collides t) ts ≡ b → (not b && meets_none ts) ≡ true → (meets_none ts ≡ true → AreApart ts)
        → IsClear t ts × AreApart ts
    by true is g rest = cc
    by false is g rest = (none-clear t ts is, rest g)

apart-meets : (ts : List Touch) → AreApart ts → meets_none ts ≡ true
apart-meets [] a = refl
apart-meets (t ∷ ts) a =
    let here : list_any (collides t) ts ≡ false = any-false (collides t) ts a.0 in
    let rest : meets_none ts ≡ true = apart-meets ts a.1 in
    λ i. not (here i) && rest i

-- so nothing clashes
pub none-clash : (ops : Ops) → meets_none (touches ops) ≡ true → clashes ops ≡ false
none-clash ops h = apart-clashes ops (meets-apart (touches ops) h)

-- ---- each touches what it puts, and no more

clear-none : (t : Touch) (us : List Touch) → IsClear t us → count_touched t (keys_put us) ≡ 0
clear-none t [] h = refl
clear-none t (Touch.one k ∷ us) h =
    let here : bit (collides t (Touch.one k)) ≡ 0 = ap bit h.0 in
    let rest : count_touched t (keys_put us) ≡ 0 = clear-none t us h.1 in
    λ i. here i + rest i
clear-none t (Touch.each r ∷ us) h = clear-none t us h.1

own-here : (t : Touch) (ts : List Touch) → count_touched t (keys_put (t ∷ ts)) ≡ own_of t + count_touched t (keys_put ts)
own-here (Touch.one k) ts = ap (λ b. bit b + count_touched (Touch.one k) (keys_put ts)) (same-refl k)
own-here (Touch.each r) ts = omega arith

own : (front ts : List Touch) (t : Touch) → AreApart (front ++ t ∷ ts) → count_touched t (keys_put (front ++ t ∷ ts)) ≡ own_of t
own front ts t a =
    let parts = AllByRecursion-split (λ u. collides t u ≡ false) front ts (apart-alone front ts t a) in
    let before : count_touched t (keys_put front) ≡ 0 = clear-none t front parts.0 in
    let behind : count_touched t (keys_put ts) ≡ 0 = clear-none t ts parts.1 in
    let here : count_touched t (keys_put (t ∷ ts)) ≡ own_of t + count_touched t (keys_put ts) = own-here t ts in
    let all : count_touched t (keys_put (front ++ t ∷ ts)) ≡ count_touched t (keys_put front) + count_touched t (keys_put (t ∷ ts))
    = count-append t front (t ∷ ts) in
    omega (arith, before, behind, here, all)

each-own : (front ts : List Touch) → AreApart (front ++ ts) → AllByRecursion (λ t. count_touched t (keys_put (front ++ ts)) ≡ own_of t) ts
each-own front [] a = tt
each-own front (t ∷ ts) a =
    let same : (front ++ t ∷ []) ++ ts ≡ front ++ t ∷ ts = append_assoc front (t ∷ []) ts in (
      own front ts t a,
      subst (λ us. AllByRecursion (λ t. count_touched t (keys_put us) ≡ own_of t) ts) same
          (each-own (front ++ t ∷ []) ts (subst AreApart (sym same) a)),
    )

none-others : (ks : List (List ℕ)) (ts : List Touched) → AllByRecursion (λ t. count_touched t ks ≡ own_of t) (map touch_view ts)
    → list_any (λ t. touches_others ks (touch_view t)) ts ≡ false
none-others ks [] h = refl
none-others ks (t ∷ ts) h =
    let here : not (nat_eq (count_touched (touch_view t) ks) (own_of (touch_view t))) ≡ false = equal (count_touched (touch_view t) ks) (own_of (touch_view t)) h.0 in
    let rest : list_any (λ t. touches_others ks (touch_view t)) ts ≡ false = none-others ks ts h.1 in
    λ i. here i || rest i
  where
    equal : (m n : ℕ) → m ≡ n → not (nat_eq m n) ≡ false
    equal m n e = let same : nat_eq m n ≡ true = grind (arith, nat_tests) in ap not same

counted-by : (ks ls : List (List ℕ)) → ((t : Touch) → count_touched t ks ≡ count_touched t ls) → (us : List Touch)
    → AllByRecursion (λ t. count_touched t ls ≡ own_of t) us → AllByRecursion (λ t. count_touched t ks ≡ own_of t) us
counted-by ks ls h [] a = tt
counted-by ks ls h (t ∷ us) a = (h t ∙ a.0, counted-by ks ls h us a.1)

-- none touches another number of the keys than it puts where none touches a key that another puts, and only there
pub none-meets : (ks : List (List ℕ)) (ts : List Touched) (ops : Ops) (b : Bool) → map touch_view ts ≡ touches ops
    → ((t : Touch) → count_touched t ks ≡ count_touched t (keys_put (map touch_view ts)))
    → list_any (λ t. touches_others ks (touch_view t)) ts ≡ b → not b ≡ meets_none (touches ops)
none-meets ks ts ops false e h f = sym (ap meets_none (sym e) ∙ apart-meets (map touch_view ts) (apart ks (map touch_view ts) (λ t. most t (h t)) (alone ks ts f)))
  where
    most : (t : Touch) → count_touched t ks ≡ count_touched t (keys_put (map touch_view ts))
        → count_touched t (keys_put (map touch_view ts)) ≤ count_touched t ks
    most t g = omega (arith, g)
none-meets ks ts ops true e h f = by (meets_none (touches ops)) refl
  where
    by : (m : Bool) → meets_none (touches ops) ≡ m → false ≡ m
    by false is = refl
    by true is =
        let a : AreApart (map touch_view ts) = meets-apart (map touch_view ts) (ap meets_none e ∙ is) in
        let none : list_any (λ t. touches_others ks (touch_view t)) ts ≡ false
        = none-others ks ts (counted-by ks (keys_put (map touch_view ts)) h (map touch_view ts) (each-own [] (map touch_view ts) a)) in
        let bad : true ≡ false = sym f ∙ none in cc

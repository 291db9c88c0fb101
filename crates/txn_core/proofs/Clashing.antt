-- Operations of a row collide where one touches more of the keys that are put in the row than of those that it puts itself.
use Rattle.std.proofs.Common.{◌≡◌, ℕ, zero, suc, ◌+◌, List, [], ◌∷◌, ◌++◌, map, Bool, true, false, not, ◌||◌, nat_eq, nat_lt, refl, sym}
use Rattle.std.proofs.Common.{◌∙◌, ap, subst, arith, append_assoc, drop}
use Rattle.std.specs.Prelude.{⊤}
use Rattle.std.specs.List.{AllByRecursion, list_any}
use Rattle.std.proofs.lemmas.Bool.Decides.{nat_tests}
use Rattle.std.proofs.lemmas.List.Folds.{list_any-append}
use Rattle.std.proofs.Math.Bool.{or-false, or-true}
use Rattle.kv_model.specs.declared.call.RangeQuery.{RangeQuery}
use Rattle.kv_model.specs.declared.call.PutRequest.{PutRequest}
use Rattle.kv_model.specs.declared.call.DeleteRequest.{DeleteRequest}
use Rattle.kv_model.specs.declared.call.Operation.{Operation}
use Rattle.kv_model.specs.declared.call.Operation.TheVariants.{Range, Put, Delete}
use Rattle.kv_model.specs.declared.call.Txn.{Txn, out-Txn}
use Rattle.kv_model.specs.Calls.{Ops, then}
use Rattle.kv_model.specs.Commands.{op_view, txn_view, ops_view}
use Rattle.kv_model.specs.Txns.{Path, Touch, collides, touches, any_collide, clashes, path_of}
use Rattle.store_laws.specs.Plans.{path_touches}
use Rattle.store_laws.proofs.SmallLaws.{same_key-comm, collides-comm}
use Rattle.store_laws.proofs.HistoryLaws.{AllByRecursion-split}
use Rattle.store_laws.proofs.PlaceLaws.{each-append}
use Rattle.store_laws.proofs.TouchLaws.{IsClear}
use Rattle.store_laws.proofs.PlanLaws.{NoClash}
use Rattle.store_laws.proofs.PathLaws.{path-noclash}
use Rattle.txn_core.specs.Touching.{bit, count_of, keys_put, count_touched, meets_put, touches_more, meets_more, all_of, some_collide}
use Rattle.txn_core.specs.Touching.{OppositeBranchesDoNotClash, PutsAreAlone}
use Rattle.txn_core.specs.declared.touched.Touched.{Touched}
use Rattle.txn_core.specs.Views.{touch_view}
use Rattle.txn_core.proofs.Walking.{txn_view-out, op_view-Range, op_view-Put, op_view-Delete}
use Rattle.txn_core.proofs.Elements.{At, from-here}

-- ---- laws of or

exchange : (a b c d : Bool) → ((a || b) || (c || d)) ≡ ((a || c) || (b || d))
exchange true b c d = refl
exchange false true true d = refl
exchange false true false d = refl
exchange false false c d = refl

later : (a b c d e : Bool) → ((a || b) || ((c || d) || e)) ≡ (((b || c) || (a || d)) || e)
later true true c d e = refl
later true false true d e = refl
later true false false d e = refl
later false true c d e = refl
later false false c d e = refl

past : (g c d e : Bool) → (g || ((c || d) || e)) ≡ ((c || (g || d)) || e)
past true true d e = refl
past true false d e = refl
past false c d e = refl

later-txn : (a b g h c d e : Bool) → ((((a || b) || g) || h) || ((c || d) || e)) ≡ (((b || c) || (((a || g) || h) || d)) || e)
later-txn true true g h c d e = refl
later-txn true false g h true d e = refl
later-txn true false g h false d e = refl
later-txn false true g h c d e = refl
later-txn false false g h c d e = past (g || h) c d e

order : (p q w u v : Bool) → ((p || q) || (w || (u || v))) ≡ (((q || v) || w) || (p || u))
order true q w u v = sym (or-true ((q || v) || w))
order false true w u v = refl
order false false true u true = refl
order false false true u false = refl
order false false false true v = sym (or-true (v || false))
order false false false false true = refl
order false false false false false = refl

-- ---- laws of some

any-or : {X : Type 0} (p q : X → Bool) (xs : List X) → list_any (λ x. p x || q x) xs ≡ (list_any p xs || list_any q xs)
any-or p q [] = refl
any-or p q (x ∷ xs) = ap (λ b. (p x || q x) || b) (any-or p q xs) ∙ exchange (p x) (q x) (list_any p xs) (list_any q xs)

any-none : {X : Type 0} (xs : List X) → list_any (λ (x : X). false) xs ≡ false
any-none [] = refl
any-none (x ∷ xs) = any-none xs

any-count : {X : Type 0} (p : X → Bool) (xs : List X) → nat_lt 0 (count_of p xs) ≡ list_any p xs
any-count p [] = refl
any-count p (x ∷ xs) = first (p x) (count_of p xs) (list_any p xs) (any-count p xs)
  where
    first : (b : Bool) (n : ℕ) (c : Bool) → nat_lt 0 n ≡ c → nat_lt 0 (bit b + n) ≡ (b || c)
    first true n c h = grind (arith, nat_tests)
    first false n c h = let same : 0 + n ≡ n = omega arith in ap (nat_lt 0) same ∙ h

count_of-append : {X : Type 0} (p : X → Bool) (xs ys : List X) → count_of p (xs ++ ys) ≡ count_of p xs + count_of p ys
count_of-append p [] ys = omega arith
count_of-append p (x ∷ xs) ys = omega (arith, count_of-append p xs ys)

-- ---- what collides

pub keys_put-append : (ts us : List Touch) → keys_put (ts ++ us) ≡ keys_put ts ++ keys_put us
keys_put-append [] us = refl
keys_put-append (Touch.one k ∷ ts) us = ap (λ ks. k ∷ ks) (keys_put-append ts us)
keys_put-append (Touch.each r ∷ ts) us = keys_put-append ts us

meets_put-append : (t : Touch) (us vs : List Touch) → meets_put t (us ++ vs) ≡ (meets_put t us || meets_put t vs)
meets_put-append t us vs = ap (list_any (λ k. collides t (Touch.one k))) (keys_put-append us vs)
    ∙ list_any-append (λ k. collides t (Touch.one k)) (keys_put us) (keys_put vs)

pub count-append : (t : Touch) (us vs : List Touch) → count_touched t (keys_put (us ++ vs))
    ≡ count_touched t (keys_put us) + count_touched t (keys_put vs)
count-append t us vs = ap (count_touched t) (keys_put-append us vs)
    ∙ count_of-append (λ k. collides t (Touch.one k)) (keys_put us) (keys_put vs)

counted : (t : Touch) (us : List Touch) → nat_lt 0 (count_touched t (keys_put us)) ≡ meets_put t us
counted t us = any-count (λ k. collides t (Touch.one k)) (keys_put us)

-- a touch collides with others where it meets one of their puts, or one of them meets its own
meets-put : (x s y a : Bool) → (x || y) ≡ x → (x || (s || a)) ≡ ((x || s) || (y || a))
meets-put true s y a h = refl
meets-put false s y a h = ap (λ b. s || (b || a)) (sym h)

meets-each : (x s a : Bool) → (x || (s || a)) ≡ (s || ((x || false) || a))
meets-each true s a = sym (or-true s)
meets-each false s a = refl

or-same : (b c : Bool) → c ≡ b → (b || (c || false)) ≡ b
or-same true c h = refl
or-same false c h = ap (λ d. d || false) h

each-way : (t : Touch) (us : List Touch) → list_any (collides t) us ≡ (meets_put t us || list_any (λ u. meets_put u (t ∷ [])) us)
each-way t [] = refl
each-way (Touch.one l) (Touch.one k ∷ us) =
    ap (λ b. collides (Touch.one l) (Touch.one k) || b) (each-way (Touch.one l) us)
    ∙ meets-put (collides (Touch.one l) (Touch.one k)) (meets_put (Touch.one l) us) (meets_put (Touch.one k) (Touch.one l ∷ []))
    (list_any (λ u. meets_put u (Touch.one l ∷ [])) us)
    (or-same (collides (Touch.one l) (Touch.one k)) (collides (Touch.one k) (Touch.one l)) (same_key-comm k l))
each-way (Touch.each r) (Touch.one k ∷ us) =
    ap (λ b. collides (Touch.each r) (Touch.one k) || b) (each-way (Touch.each r) us)
    ∙ meets-put (collides (Touch.each r) (Touch.one k)) (meets_put (Touch.each r) us) false
    (list_any (λ u. meets_put u (Touch.each r ∷ [])) us) (or-false (collides (Touch.each r) (Touch.one k)))
each-way (Touch.one l) (Touch.each r ∷ us) =
    ap (λ b. collides (Touch.one l) (Touch.each r) || b) (each-way (Touch.one l) us)
    ∙ meets-each (collides (Touch.one l) (Touch.each r)) (meets_put (Touch.one l) us) (list_any (λ u. meets_put u (Touch.one l ∷ [])) us)
each-way (Touch.each r) (Touch.each q ∷ us) = each-way (Touch.each r) us

both-ways : (ts us : List Touch) → any_collide ts us ≡ (list_any (λ t. meets_put t us) ts || list_any (λ u. meets_put u ts) us)
both-ways [] us = sym (any-none us)
both-ways (t ∷ ts) us =
    let here = list_any (λ u. meets_put u (t ∷ [])) us in
    let there = list_any (λ u. meets_put u ts) us in
    (λ i. each-way t us i || both-ways ts us i)
    ∙ exchange (meets_put t us) here (list_any (λ t. meets_put t us) ts) there
    ∙ ap (λ b. (meets_put t us || list_any (λ t. meets_put t us) ts) || b)
    (sym (any-or (λ u. meets_put u (t ∷ [])) (λ u. meets_put u ts) us))
    ∙ (λ i. (meets_put t us || list_any (λ t. meets_put t us) ts) || list_any (λ u. sym (meets_put-append u (t ∷ []) ts) i) us)

-- ---- counting

differs : (b o r a : ℕ) → a ≡ b + (o + r) → not (nat_eq a o) ≡ (nat_lt 0 b || nat_lt 0 r)
differs zero o zero a e = let same : nat_eq a o ≡ true = grind (arith, nat_tests) in ap not same
differs zero o (suc r) a e =
    let other : nat_eq a o ≡ false = grind (arith, nat_tests) in
    let more : nat_lt 0 (suc r) ≡ true = grind (arith, nat_tests) in
    ap not other ∙ sym more
differs (suc b) o r a e =
    let other : nat_eq a o ≡ false = grind (arith, nat_tests) in
    let more : nat_lt 0 (suc b) ≡ true = grind (arith, nat_tests) in
    ap not other ∙ ap (λ c. c || nat_lt 0 r) (sym more)

meets-more : (all : List (List ℕ)) (before ts rest : List Touch)
    → ((t : Touch) → count_touched t all ≡ count_touched t (keys_put before) + count_touched t (keys_put (ts ++ rest)))
    → meets_more all ts ≡ (list_any (λ t. meets_put t before) ts || list_any (λ t. meets_put t rest) ts)
meets-more all before ts rest h = (λ i. list_any (λ t. each t i) ts) ∙ any-or (λ t. meets_put t before) (λ t. meets_put t rest) ts
  where
    each : (t : Touch) → not (nat_eq (count_touched t all) (count_touched t (keys_put ts))) ≡ (meets_put t before || meets_put t rest)
    each t = differs (count_touched t (keys_put before)) (count_touched t (keys_put ts)) (count_touched t (keys_put rest))
        (count_touched t all) (h t ∙ ap (λ n. count_touched t (keys_put before) + n) (count-append t ts rest))
        ∙ (λ i. counted t before i || counted t rest i)

some-more : (all : List (List ℕ)) (before : List Touch) (tss : List (List Touch))
    → ((t : Touch) → count_touched t all ≡ count_touched t (keys_put before) + count_touched t (keys_put (all_of tss)))
    → list_any (meets_more all) tss ≡ (some_collide tss || list_any (λ t. meets_put t before) (all_of tss))
some-more all before [] h = refl
some-more all before (ts ∷ tss) h =
    let rest = all_of tss in
    let p = list_any (λ t. meets_put t before) ts in
    let q = list_any (λ t. meets_put t rest) ts in
    let w = some_collide tss in
    let u = list_any (λ t. meets_put t before) rest in
    let v = list_any (λ t. meets_put t ts) rest in
    (λ i. meets-more all before ts rest h i || some-more all (before ++ ts) tss next i)
    ∙ ap (λ b. (p || q) || (w || b)) ((λ i. list_any (λ t. meets_put-append t before ts i) rest)
    ∙ any-or (λ t. meets_put t before) (λ t. meets_put t ts) rest)
    ∙ order p q w u v
    ∙ (λ i. (sym (both-ways ts rest) i || w) || sym (list_any-append (λ t. meets_put t before) ts rest) i)
  where
    next : (t : Touch) → count_touched t all ≡ count_touched t (keys_put (before ++ ts)) + count_touched t (keys_put (all_of tss))
    next t = omega (arith, h t, count-append t ts (all_of tss), count-append t before ts)

-- some operation collides with more of the keys that are put than it puts itself, where two collide
pub collide-by_count : (all : List (List ℕ)) (tss : List (List Touch))
    → ((t : Touch) → count_touched t all ≡ count_touched t (keys_put (all_of tss))) → list_any (meets_more all) tss ≡ some_collide tss
collide-by_count all tss h = some-more all [] tss (λ t. omega (arith, h t)) ∙ ap (λ b. some_collide tss || b) (any-none (all_of tss))
    ∙ or-false (some_collide tss)

-- ---- the model's clashes

touches-then : (a b : Ops) → touches (then a b) ≡ touches a ++ touches b
touches-then Ops.no_ops b = refl
touches-then (Ops.range q rest) b = touches-then rest b
touches-then (Ops.put p rest) b = ap (λ ts. Touch.one p.key ∷ ts) (touches-then rest b)
touches-then (Ops.delete d rest) b = ap (λ ts. Touch.each d.range ∷ ts) (touches-then rest b)
touches-then (Ops.txn cs s f rest) b = ap (λ ts. (touches s ++ touches f) ++ ts) (touches-then rest b)
    ∙ sym (append_assoc (touches s ++ touches f) (touches rest) (touches b))

any_collide-append : (ts us vs : List Touch) → any_collide ts (us ++ vs) ≡ (any_collide ts us || any_collide ts vs)
any_collide-append ts us vs = (λ i. list_any (λ t. list_any-append (collides t) us vs i) ts)
    ∙ any-or (λ t. list_any (collides t) us) (λ t. list_any (collides t) vs) ts

clashes-then : (a b : Ops) → clashes (then a b) ≡ ((any_collide (touches a) (touches b) || clashes a) || clashes b)
unfolding clashes
clashes-then Ops.no_ops b = refl
clashes-then (Ops.range q rest) b = clashes-then rest b
clashes-then (Ops.put p rest) b =
    (λ i. (ap (list_any (collides (Touch.one p.key))) (touches-then rest b)
    ∙ list_any-append (collides (Touch.one p.key)) (touches rest) (touches b)) i || clashes-then rest b i)
    ∙ later (list_any (collides (Touch.one p.key)) (touches rest)) (list_any (collides (Touch.one p.key)) (touches b))
    (any_collide (touches rest) (touches b)) (clashes rest) (clashes b)
clashes-then (Ops.delete d rest) b =
    (λ i. (ap (list_any (collides (Touch.each d.range))) (touches-then rest b)
    ∙ list_any-append (collides (Touch.each d.range)) (touches rest) (touches b)) i || clashes-then rest b i)
    ∙ later (list_any (collides (Touch.each d.range)) (touches rest)) (list_any (collides (Touch.each d.range)) (touches b))
    (any_collide (touches rest) (touches b)) (clashes rest) (clashes b)
clashes-then (Ops.txn cs s f rest) b =
    let inner = touches s ++ touches f in
    (λ i. (((ap (any_collide inner) (touches-then rest b) ∙ any_collide-append inner (touches rest) (touches b)) i || clashes s)
    || clashes f) || clashes-then rest b i)
    ∙ later-txn (any_collide inner (touches rest)) (any_collide inner (touches b)) (clashes s) (clashes f)
    (any_collide (touches rest) (touches b)) (clashes rest) (clashes b)
    ∙ ap (λ x. (x || (((any_collide inner (touches rest) || clashes s) || clashes f) || clashes rest)) || clashes b)
    (sym (list_any-append (λ t. list_any (collides t) (touches b)) inner (touches rest)))

pub touches-ops : (os : List Operation) → touches (ops_view os) ≡ all_of (map (λ o. touches (op_view o)) os)
touches-ops [] = refl
touches-ops (o ∷ os) = touches-then (op_view o) (ops_view os) ∙ ap (λ ts. touches (op_view o) ++ ts) (touches-ops os)

-- operations clash where two collide, or one clashes by itself
pub clashes-ops : (os : List Operation) → clashes (ops_view os)
    ≡ (some_collide (map (λ o. touches (op_view o)) os) || list_any (λ o. clashes (op_view o)) os)
unfolding clashes
clashes-ops [] = refl
clashes-ops (o ∷ os) =
    let all = map (λ o. touches (op_view o)) os in
    clashes-then (op_view o) (ops_view os)
    ∙ (λ i. (any_collide (touches (op_view o)) (touches-ops os i) || clashes (op_view o)) || clashes-ops os i)
    ∙ exchange (any_collide (touches (op_view o)) (all_of all)) (clashes (op_view o)) (some_collide all)
    (list_any (λ o. clashes (op_view o)) os)

-- ---- a transaction and an operation

any_collide-none : (ts : List Touch) → any_collide ts [] ≡ false
any_collide-none ts = any-none ts

first-of : (a b c : Bool) → a ≡ false → (((a || b) || c) || false) ≡ (b || c)
first-of a b c h = or-false ((a || b) || c) ∙ ap (λ d. (d || b) || c) h

pub clashes-txn : (t : Txn) → clashes (txn_view t)
    ≡ (clashes (ops_view (out-Txn t).success.items) || clashes (ops_view (out-Txn t).failure.items))
unfolding clashes
clashes-txn t =
    let s = ops_view (out-Txn t).success.items in
    let f = ops_view (out-Txn t).failure.items in
    ap clashes (txn_view-out t) ∙ first-of (any_collide (touches s ++ touches f) []) (clashes s) (clashes f)
    (any_collide-none (touches s ++ touches f))

pub clashes-range : (q : RangeQuery) → clashes (op_view (Range q)) ≡ false
unfolding clashes
clashes-range q = ap clashes (op_view-Range q)

pub clashes-put : (p : PutRequest) → clashes (op_view (Put p)) ≡ false
unfolding clashes
clashes-put p = ap clashes (op_view-Put p)

pub clashes-delete : (d : DeleteRequest) → clashes (op_view (Delete d)) ≡ false
unfolding clashes
clashes-delete d = ap clashes (op_view-Delete d)

pub touches-step : (os : List Operation) (a : At os)
    → touches (ops_view (drop a.index os)) ≡ touches (op_view a.value) ++ touches (ops_view (drop (a.index + 1) os))
touches-step os a = ap (λ (ps : List Operation). touches (ops_view ps)) (from-here os a)
    ∙ touches-then (op_view a.value) (ops_view (drop (a.index + 1) os))

pub any-map : {X Y : Type 0} (f : X → Y) (p : Y → Bool) (xs : List X) → list_any p (map f xs) ≡ list_any (λ x. p (f x)) xs
any-map f p [] = refl
any-map f p (x ∷ xs) = ap (λ b. p (f x) || b) (any-map f p xs)

-- ---- what the program answers

-- the keys of what is touched are those that are counted
pub meets-by : (all own : List (List ℕ)) (us : List Touched) (ts : List Touch) → map touch_view us ≡ ts
    → ((t : Touch) → count_touched t own ≡ count_touched t (keys_put ts))
    → list_any (λ u. touches_more all own (touch_view u)) us ≡ meets_more all ts
meets-by all own us ts e h = sym (any-map touch_view (touches_more all own) us) ∙ ap (list_any (touches_more all own)) e
    ∙ (λ i. list_any (λ t. not (nat_eq (count_touched t all) (h t i))) ts)

pub row-by : (all : List (List ℕ)) (os : List Operation)
    → ((t : Touch) → count_touched t all ≡ count_touched t (keys_put (touches (ops_view os))))
    → list_any (λ o. meets_more all (touches (op_view o))) os ≡ some_collide (map (λ o. touches (op_view o)) os)
row-by all os h = sym (any-map (λ o. touches (op_view o)) (meets_more all) os)
    ∙ collide-by_count all (map (λ o. touches (op_view o)) os) (λ t. h t ∙ ap (λ ts. count_touched t (keys_put ts)) (touches-ops os))

pub clash-collide : (os : List Operation) (b : Bool) → b ≡ some_collide (map (λ o. touches (op_view o)) os) → b ≡ true
    → true ≡ clashes (ops_view os)
clash-collide os b e t = sym (clashes-ops os ∙ ap (λ c. c || list_any (λ o. clashes (op_view o)) os) (sym e ∙ t))

pub clash-inner : (os : List Operation) (b r : Bool) → b ≡ some_collide (map (λ o. touches (op_view o)) os) → b ≡ false
    → r ≡ list_any (λ o. clashes (op_view o)) os → r ≡ clashes (ops_view os)
clash-inner os b r e f g = g ∙ sym (clashes-ops os ∙ ap (λ c. c || list_any (λ o. clashes (op_view o)) os) (sym e ∙ f))

pub txn-first : (t : Txn) (b : Bool) → b ≡ clashes (ops_view (out-Txn t).success.items) → b ≡ true → true ≡ clashes (txn_view t)
txn-first t b e h = sym (clashes-txn t ∙ ap (λ c. c || clashes (ops_view (out-Txn t).failure.items)) (sym e ∙ h))

pub txn-second : (t : Txn) (b : Bool) → b ≡ clashes (ops_view (out-Txn t).success.items) → b ≡ false
    → clashes (ops_view (out-Txn t).failure.items) ≡ clashes (txn_view t)
txn-second t b e h = sym (clashes-txn t ∙ ap (λ c. c || clashes (ops_view (out-Txn t).failure.items)) (sym e ∙ h))

-- ---- laws

pub opposite_branches : OppositeBranchesDoNotClash
unfolding clashes
opposite_branches cs s f = first-of (any_collide (touches s ++ touches f) []) (clashes s) (clashes f)
    (any_collide-none (touches s ++ touches f))

-- each of them is clear of those behind it
abbrev pub AreApart : List Touch → Type 0
AreApart [] = ⊤
AreApart (t ∷ ts) = IsClear t ts × AreApart ts

apart-append : (ts us : List Touch) → AreApart ts → AreApart us → AllByRecursion (λ t. IsClear t us) ts → AreApart (ts ++ us)
apart-append [] us a b h = b
apart-append (t ∷ ts) us a b h = (each-append (λ u. collides t u ≡ false) ts us a.0 h.0, apart-append ts us a.1 b h.1)

path-apart : (q : Path) → NoClash q → AreApart (path_touches q)
path-apart Path.end n = tt
path-apart (Path.range q rest) n = path-apart rest n
path-apart (Path.put p rest) n = (n.0, path-apart rest n.1)
path-apart (Path.delete d rest) n = (n.0, path-apart rest n.1)
path-apart (Path.txn b inner rest) n = apart-append (path_touches inner) (path_touches rest) (path-apart inner n.1)
    (path-apart rest n.2) n.0

pub apart-alone : (before after : List Touch) (t : Touch) → AreApart (before ++ t ∷ after) → IsClear t (before ++ after)
apart-alone [] after t a = a.0
apart-alone (u ∷ before) after t a =
    let parts : AllByRecursion (λ s. collides u s ≡ false) before × AllByRecursion (λ s. collides u s ≡ false) (t ∷ after)
    = AllByRecursion-split (λ s. collides u s ≡ false) before (t ∷ after) a.0 in
    (collides-comm t u ∙ parts.1.0, apart-alone before after t a.1)

pub put_alone : PutsAreAlone
put_alone ops h vs now before after k e = apart-alone before after (Touch.one k)
    (subst AreApart e (path-apart (path_of vs now ops) (path-noclash vs now ops h)))

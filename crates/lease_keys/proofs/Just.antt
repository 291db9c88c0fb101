-- An index that has just what it must: as versions come, and where they are taken back.
use Rattle.std.proofs.Common.{◌≡◌, ◌⊎◌, inl, inr, ◌<◌, ℕ, ℤ, List, [], ◌∷◌, ◌++◌, Bool, true, false, ◌||◌, ◌&&◌, not, cond}
use Rattle.std.proofs.Common.{Option, None, Some, is_none, option_and_then, refl, sym, ◌∙◌, ap}
use Rattle.std.specs.List.{list_any}
use Rattle.std.specs.Option.{option_or}
use Rattle.std.specs.Ordering.{int_eq}
use Rattle.std.proofs.Math.Bool.{and-false, and-true, or-false, or-true}
use Rattle.kv_model.specs.declared.version.Version.{Version}
use Rattle.kv_model.specs.declared.version.Body.{Body}
use Rattle.kv_model.specs.declared.version.Body.TheVariants.{Put, Gone}
use Rattle.kv_model.specs.Lists.{last_that}
use Rattle.kv_model.specs.Keys.{same_key}
use Rattle.kv_model.specs.History.{KeyValue, shown, key_value, value_now}
use Rattle.store_laws.proofs.HistoryLaws.{last_that-append}
use Rattle.store_laws.proofs.DeleteLaws.{last_that-passes}
use Rattle.lease_keys.specs.Pairs.{Pairs, has_pair}
use Rattle.lease_keys.specs.Holding.{is_lease, is_of, lease_of, lease_held, puts_pair, touches, under, Holds}
use Rattle.lease_keys.specs.Holding.{AreJust, ArePut, ArePartlyPut, AreSettled, AreTakenBack}
use Rattle.lease_keys.proofs.Holding.{same-lease, lease-itself}

-- ---- leases

-- what a key holds was put under a lease, or it was not
used-lease : (l : ℤ) (o : Option KeyValue) → is_lease l ≡ true → is_none (under l o) ≡ not (is_of l (lease_held o))
used-lease l None n = refl
used-lease l (Some kv) n = by (int_eq kv.lease l) refl
  where
    none : (c : Bool) → int_eq kv.lease l ≡ false → true ≡ not (is_of l (cond c (Some kv.lease) None))
    none true e = sym (ap not e)
    none false e = refl

    by : (b : Bool) → int_eq kv.lease l ≡ b → is_none (cond b (Some kv) None) ≡ not (is_of l (cond (is_lease kv.lease) (Some kv.lease) None))
    by true e = sym (ap (λ c. not (is_of l (cond c (Some kv.lease) None))) (ap is_lease (same-lease kv.lease l e) ∙ n) ∙ ap not e)
    by false e = none (is_lease kv.lease) e

-- 0 is named by none
no-lease : (l m : ℤ) → is_lease l ≡ false → is_of l (cond (is_lease m) (Some m) None) ≡ false
no-lease l m n = by (is_lease m) refl
  where
    other : is_lease m ≡ true → (c : Bool) → int_eq m l ≡ c → c ≡ false
    other e true f = let bad : true ≡ false = sym e ∙ ap is_lease (same-lease m l f) ∙ n in cc
    other e false f = refl

    by : (b : Bool) → is_lease m ≡ b → is_of l (cond b (Some m) None) ≡ false
    by true e = other e (int_eq m l) refl
    by false e = refl

no-lease-held : (l : ℤ) (o : Option KeyValue) → is_lease l ≡ false → is_of l (lease_held o) ≡ false
no-lease-held l None n = refl
no-lease-held l (Some kv) n = no-lease l kv.lease n

no-lease-of : (l : ℤ) (b : Body) → is_lease l ≡ false → is_of l (lease_of b) ≡ false
no-lease-of l (Put create version lease value) n = no-lease l lease n
no-lease-of l Gone n = refl

no-lease-put : (l : ℤ) (k : List ℕ) (vs : List Version) → is_lease l ≡ false → puts_pair l k vs ≡ false
no-lease-put l k [] n = refl
no-lease-put l k (v ∷ vs) n = ap (λ b. (b && same_key v.key k) || puts_pair l k vs) (no-lease-of l v.body n) ∙ no-lease-put l k vs n

-- a look-up finds by such an index what it has to find
pub just-holds : (ps : Pairs) (held : List ℕ → Option KeyValue) → AreJust ps held → Holds ps held
just-holds ps held just k kv e n = just kv.lease k ∙ ap (λ o. is_of kv.lease (lease_held o)) e
    ∙ ap (λ c. is_of kv.lease (cond c (Some kv.lease) None)) n ∙ lease-itself kv.lease

-- ---- versions are taken back

pub just-taken_back : (us : List Version) (held : List ℕ → Option KeyValue) (old mid new : Pairs) → AreJust old held
    → ArePartlyPut us old mid → AreTakenBack us held mid new → AreJust new held
just-taken_back us held old mid new just partly back l k = back l k ∙ by (partly l k)
  where
    used : Bool
    used = is_of l (lease_held (held k))

    unused : (u p : Bool) → (u && not (p && not u)) ≡ u
    unused true p = ap not (and-false p)
    unused false p = refl

    twice : (u : Bool) → not (not u) ≡ u
    twice true = refl
    twice false = refl

    stays : (b : Bool) → is_lease l ≡ b → (used && not (puts_pair l k us && is_none (under l (held k)))) ≡ used
    stays true n = ap (λ b. used && not (puts_pair l k us && b)) (used-lease l (held k) n) ∙ unused used (puts_pair l k us)
    stays false n = ap (λ b. used && not (b && is_none (under l (held k)))) (no-lease-put l k us n) ∙ and-true used

    goes : (b : Bool) → is_lease l ≡ b → puts_pair l k us ≡ true → not (is_none (under l (held k))) ≡ used
    goes true n put = ap not (used-lease l (held k) n) ∙ twice used
    goes false n put = let bad : true ≡ false = sym put ∙ no-lease-put l k us n in cc

    by : (has_pair l k mid ≡ has_pair l k old) ⊎ ((puts_pair l k us ≡ true) × (has_pair l k mid ≡ true))
        → (has_pair l k mid && not (puts_pair l k us && is_none (under l (held k)))) ≡ used
    by (inl same) = ap (λ b. b && not (puts_pair l k us && is_none (under l (held k)))) (same ∙ just l k) ∙ stays (is_lease l) refl
    by (inr put) = (λ i. put.1 i && not (put.0 i && is_none (under l (held k)))) ∙ goes (is_lease l) refl put.0

-- ---- versions come, and stand

shown-leased : (main : ℕ) (k : List ℕ) (b : Body) (kv : KeyValue) → shown main k b ≡ Some kv → is_lease kv.lease ≡ true
    → is_of kv.lease (lease_of b) ≡ true
shown-leased main k (Put create version lease value) kv e n =
    let same : lease ≡ kv.lease = ap lease-shown e in
    ap (λ c. is_of kv.lease (cond c (Some lease) None)) (ap is_lease same ∙ n) ∙ ap (λ l. int_eq l kv.lease) same ∙ lease-itself kv.lease
  where
    lease-shown : Option KeyValue → ℤ
    lease-shown None = lease
    lease-shown (Some x) = x.lease
shown-leased main k Gone kv e n = cc

found-any : {X : Type 0} (p q : X → Bool) (xs : List X) (x : X) → last_that p xs ≡ Some x → q x ≡ true → list_any q xs ≡ true
found-any p q [] x e h = cc
found-any {X} p q (y ∷ ys) x e h = by (last_that p ys) refl (p y) e (found-any p q ys x)
  where
    by : (o : Option X) → last_that p ys ≡ o → (b : Bool) → option_or o (cond b (Some y) None) ≡ Some x
        → (last_that p ys ≡ Some x → q x ≡ true → list_any q ys ≡ true) → (q y || list_any q ys) ≡ true
    by (Some z) is b f rest = ap (λ t. q y || t) (rest (is ∙ f) h) ∙ or-true (q y)
    by None is true f rest = let same : y ≡ x = cc in ap (λ z. q z || list_any q ys) same ∙ ap (λ t. t || list_any q ys) h
    by None is false f rest = cc

-- what a key holds that was put under a lease
held-under : (l : ℤ) (o : Option KeyValue) → is_of l (lease_held o) ≡ true → (kv : KeyValue) × (o ≡ Some kv) × (kv.lease ≡ l)
held-under l None e = cc
held-under l (Some kv) e = (kv, refl, by (is_lease kv.lease) e)
  where
    by : (b : Bool) → is_of l (cond b (Some kv.lease) None) ≡ true → kv.lease ≡ l
    by true e = same-lease kv.lease l e
    by false e = cc

-- none of them is of the key
none-any : (q : Version → Bool) (k : List ℕ) → ((v : Version) → same_key v.key k ≡ false → q v ≡ false) → (vs : List Version)
    → last_that (λ v. same_key v.key k) vs ≡ None → list_any q vs ≡ false
none-any q k h [] e = refl
none-any q k h (v ∷ vs) e = by (last_that (λ v. same_key v.key k) vs) refl (same_key v.key k) refl e (none-any q k h vs)
  where
    by : (o : Option Version) → last_that (λ v. same_key v.key k) vs ≡ o → (b : Bool) → same_key v.key k ≡ b
        → option_or o (cond b (Some v) None) ≡ None → (last_that (λ v. same_key v.key k) vs ≡ None → list_any q vs ≡ false)
        → (q v || list_any q vs) ≡ false
    by (Some u) is b same f rest = cc
    by None is true same f rest = cc
    by None is false same f rest = (λ i. h v same i || rest is i)

-- what a version touches is what it puts, and what any key held that has a version
touched : (l : ℤ) (k : List ℕ) (b : Bool) (vs : List Version)
    → list_any (λ v. same_key v.key k && (is_of l (lease_of v.body) || b)) vs
    ≡ (puts_pair l k vs || (list_any (λ v. same_key v.key k && b) vs))
touched l k b [] = refl
touched l k b (v ∷ vs) = ap (λ t. (same_key v.key k && (is_of l (lease_of v.body) || b)) || t) (touched l k b vs)
    ∙ by (same_key v.key k) (is_of l (lease_of v.body)) b (puts_pair l k vs) (list_any (λ v. same_key v.key k && b) vs)
  where
    by : (s p b r t : Bool) → ((s && (p || b)) || (r || t)) ≡ (((p && s) || r) || ((s && b) || t))
    by true true b r t = refl
    by true false true true t = refl
    by true false true false t = refl
    by true false false r t = refl
    by false true b r t = refl
    by false false b r t = refl

-- once versions stand, their pairs are added, and what they outdate is gone
pub just-settled : (vs us : List Version) (old mid new : Pairs) → AreJust old (value_now vs) → ArePut us old mid
    → AreSettled us (value_now vs) (value_now (vs ++ us)) mid new → AreJust new (value_now (vs ++ us))
unfolding value_now
just-settled vs us old mid new just put settled l k =
    settled l k ∙ ap (λ b. b && not (touches l k (value_now vs) us && gone)) (put l k ∙ ap (λ b. puts_pair l k us || b) (just l k))
    ∙ by (last_that test us) refl (ap (option_and_then key_value) (last_that-append test vs us))
  where
    test : Version → Bool
    test v = same_key v.key k

    before : Bool
    before = is_of l (lease_held (value_now vs k))

    puts : Bool
    puts = puts_pair l k us

    gone : Bool
    gone = is_none (under l (value_now (vs ++ us) k))

    -- a key of one of the versions
    whole : (p b n : Bool) → ((p || b) && not ((p || b) && n)) ≡ ((p || b) && not n)
    whole true b n = refl
    whole false true n = refl
    whole false false n = refl

    each : (b : Bool) → list_any (λ v. same_key v.key k && b) us ≡ (list_any test us && b)
    each b = go us
      where
        go : (ws : List Version) → list_any (λ v. same_key v.key k && b) ws ≡ (list_any test ws && b)
        go [] = refl
        go (w ∷ ws) = ap (λ t. (same_key w.key k && b) || t) (go ws) ∙ split (same_key w.key k) (list_any test ws) b
          where
            split : (s t b : Bool) → ((s && b) || (t && b)) ≡ ((s || t) && b)
            split true true true = refl
            split true true false = refl
            split true false true = refl
            split true false false = refl
            split false t b = refl

    named : (u : Version) → last_that test us ≡ Some u → value_now (vs ++ us) k ≡ shown u.rev.main u.key u.body
        → (n : is_lease l ≡ true) → (t : Bool) → is_of l (lease_held (value_now (vs ++ us) k)) ≡ t → ((puts || before) && not (not t)) ≡ t
    named u is held n true e =
        let kv = held-under l (value_now (vs ++ us) k) e in
        let of : is_of kv.0.lease (lease_of u.body) ≡ true =
        shown-leased u.rev.main u.key u.body kv.0 (sym held ∙ kv.1) (ap is_lease kv.2 ∙ n) in
        let mine : same_key u.key k ≡ true = last_that-passes test us u is in
        let has : puts ≡ true = found-any test (λ v. is_of l (lease_of v.body) && same_key v.key k) us u is
        ((λ i. is_of (sym kv.2 i) (lease_of u.body) && mine i) ∙ ap (λ b. b && true) of) in
        ap (λ b. (b || before) && true) has
    named u is held n false e = and-false (puts || before)

    by : (o : Option Version) → last_that test us ≡ o → value_now (vs ++ us) k ≡ option_and_then key_value (option_or o (last_that test vs))
        → ((puts || before) && not (touches l k (value_now vs) us && gone)) ≡ is_of l (lease_held (value_now (vs ++ us) k))
    by None is held =
        (λ i. (none-any (λ v. is_of l (lease_of v.body) && same_key v.key k) k
        (λ v e. ap (λ b. is_of l (lease_of v.body) && b) e ∙ and-false (is_of l (lease_of v.body))) us is i || before)
        && not (none-any (λ v. same_key v.key k && (is_of l (lease_of v.body) || before)) k
        (λ v e. ap (λ b. b && (is_of l (lease_of v.body) || before)) e) us is i && gone))
        ∙ and-true before ∙ ap (λ o. is_of l (lease_held o)) (sym held)
    by (Some u) is held = lease (is_lease l) refl
      where
        lease : (b : Bool) → is_lease l ≡ b → ((puts || before) && not (touches l k (value_now vs) us && gone)) ≡ is_of l (lease_held (value_now (vs ++ us) k))
        lease true n = ap (λ t. (puts || before) && not (t && gone)) all ∙ whole puts before gone
            ∙ ap (λ b. (puts || before) && not b) (used-lease l (value_now (vs ++ us) k) n) ∙ named u is held n (is_of l (lease_held (value_now (vs ++ us) k))) refl
          where
            all : touches l k (value_now vs) us ≡ (puts || before)
            all = touched l k before us ∙ ap (λ t. puts || t) (each before ∙ ap (λ t. t && before)
                (found-any test test us u is (last_that-passes test us u is)))
        lease false n =
            (λ i. (no-lease-put l k us n i || no-lease-held l (value_now vs k) n i) && not (touches l k (value_now vs) us && gone))
            ∙ sym (no-lease-held l (value_now (vs ++ us) k) n)

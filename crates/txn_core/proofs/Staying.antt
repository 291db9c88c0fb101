-- What holds nothing, and is not put again, holds nothing later.
use Rattle.std.proofs.Common.{◌≡◌, ◌⊎◌, inl, inr, ℕ, zero, suc, ◌+◌, ◌<◌, ◌≤◌, List, [], ◌∷◌, ◌++◌, map, filter, Bool, true, false, not}
use Rattle.std.proofs.Common.{◌&&◌, ◌||◌, cond, Vec, Global, Option, None, Some, option_and_then, is_some, refl, sym, ◌∙◌, ap, subst, arith, length, nat_eq, nat_le, Bor}
use Rattle.std.specs.Prelude.{MatchOption, ⊤}
use Rattle.std.specs.Option.{option_or}
use Rattle.std.specs.List.{AllByRecursion}
use Rattle.std.specs.declared.cmp.Ordering.{Ordering}
use Rattle.std.specs.declared.cmp.Ordering.TheVariants.{Less, Equal, Greater}
use Rattle.std.specs.Ordering.{nat_cmp, ordering_then, is_le, MatchOrdering}
use Rattle.std.specs.Cmp.{ranks}
use Rattle.std.proofs.lemmas.Bool.Decides.{nat_tests}
use Rattle.std.proofs.lemmas.List.{map-append}
use Rattle.kv_model.specs.declared.version.Rev.{Rev}
use Rattle.kv_model.specs.declared.version.Version.{Version}
use Rattle.kv_model.specs.declared.version.Body.{Body}
use Rattle.kv_model.specs.declared.version.Body.TheVariants.{Put, Gone}
use Rattle.kv_model.specs.declared.version.KeyRange.{KeyRange}
use Rattle.kv_model.specs.Keys.{same_key, in_range}
use Rattle.kv_model.specs.Lists.{last_that}
use Rattle.kv_model.specs.History.{KeyValue, key_value, shown, is_tombstone, rev_le, value_at}
use Rattle.kv_model.specs.Ranges.{keys_of, live}
use Rattle.kv_model.specs.Txns.{Touch, place_before}
use Rattle.range_view.specs.Stored.{Viewed}
use Rattle.store_laws.proofs.HistoryLaws.{same_key-eq}
use Rattle.store_laws.proofs.KeyLaws.{has_key}
use Rattle.store_laws.proofs.PlaceLaws.{each-map, rev_le-before}
use Rattle.txn_core.specs.Emptied.{put_keys, put_from, PutsNone, AreEmptied}
use Rattle.txn_core.specs.declared.emptied.Emptied.{Emptied}
use Rattle.swept_ranges.specs.Swept.{covers, of_keys, AreBut}
use Rattle.txn_core.specs.declared.touched.Touched.{Touched}
use Rattle.txn_core.specs.Touching.{bit, keys_put, count_touched}
use Rattle.txn_core.specs.Views.{touch_view, keys_view, AreSorted}
use Rattle.txn_core.proofs.Clashing.{keys_put-append}
use Rattle.txn_core.proofs.Buried.{live-shown, in-live}

-- ---- nothing later

tomb : (main : ℕ) (k : List ℕ) (b : Body) → is_tombstone b ≡ true → shown main k b ≡ None
tomb main k (Put create version lease value) h = cc
tomb main k Gone h = refl

-- the last of some, and the last of more: the same, or it shows nothing
Later : Option Version → Option Version → Type 0
Later a b = (b ≡ a) ⊎ (option_and_then key_value b ≡ None)

-- and in a list whose others stand before it
LaterIn : Option Version → Option Version → Type 0
LaterIn a b = (b ≡ a) ⊎ ((is_some b ≡ true) × (option_and_then key_value b ≡ None))

later-one : (a b : Option Version) (s c d : Bool) (x : Version) → LaterIn a b → (c ≡ true → d ≡ true)
    → (s ≡ true → c ≡ false → d ≡ true → is_tombstone x.body ≡ true)
    → LaterIn (option_or a (cond (s && c) (Some x) None)) (option_or b (cond (s && d) (Some x) None))
unfolding LaterIn
later-one a (Some y) s c d x (inr n) m h = inr n
later-one a None s c d x (inr n) m h = cc
later-one (Some y) b s c d x (inl e) m h = inl (ap (λ o. option_or o (cond (s && d) (Some x) None)) e)
later-one None b false c d x (inl e) m h = inl (ap (λ o. option_or o None) e)
later-one None b true true d x (inl e) m h = inl (λ i. option_or (e i) (cond (m refl i) (Some x) None))
later-one None b true false false x (inl e) m h = inl (ap (λ o. option_or o None) e)
later-one None b true false true x (inl e) m h = inr (
  ap (λ o. is_some (option_or o (Some x))) e,
  ap (λ o. option_and_then key_value (option_or o (Some x))) e ∙ tomb x.rev.main x.key x.body (h refl refl refl),
)

later-all : (vs : List Version) (p q : Rev) (k : List ℕ) → ((u : Version) → rev_le u.rev p ≡ true → rev_le u.rev q ≡ true)
    → AllByRecursion (λ u. same_key u.key k ≡ true → rev_le u.rev p ≡ false → rev_le u.rev q ≡ true → is_tombstone u.body ≡ true) vs
    → LaterIn (last_that (λ u. same_key u.key k && rev_le u.rev p) vs) (last_that (λ u. same_key u.key k && rev_le u.rev q) vs)
unfolding LaterIn
later-all [] p q k m h = inl refl
later-all (x ∷ xs) p q k m h = later-one (last_that (λ u. same_key u.key k && rev_le u.rev p) xs)
    (last_that (λ u. same_key u.key k && rev_le u.rev q) xs) (same_key x.key k) (rev_le x.rev p) (rev_le x.rev q) x
    (later-all xs p q k m h.1) (m x) h.0

later-none : (vs : List Version) (p q : Rev) (k : List ℕ) → ((u : Version) → rev_le u.rev p ≡ true → rev_le u.rev q ≡ true)
    → AllByRecursion (λ u. same_key u.key k ≡ true → rev_le u.rev p ≡ false → rev_le u.rev q ≡ true → is_tombstone u.body ≡ true) vs
    → value_at vs p k ≡ None → value_at vs q k ≡ None
unfolding value_at LaterIn
later-none vs p q k m h e = by (later-all vs p q k m h)
  where
    by : LaterIn (last_that (λ u. same_key u.key k && rev_le u.rev p) vs) (last_that (λ u. same_key u.key k && rev_le u.rev q) vs)
        → option_and_then key_value (last_that (λ u. same_key u.key k && rev_le u.rev q) vs) ≡ None
    by (inl s) = ap (option_and_then key_value) s ∙ e
    by (inr n) = n.1

-- ---- places within one revision

pub rev_le-sub : (u : Rev) (main n m : ℕ) → n ≤ m → rev_le u (record { main = main; sub = n }) ≡ true → rev_le u (record { main = main; sub = m }) ≡ true
rev_le-sub u main n m l e = by (nat_cmp u.main main) (nat_cmp u.sub n) (ranks u.sub n) (nat_cmp u.sub m) (ranks u.sub m) e
  where
    by : (o t : Ordering) → MatchOrdering t (u.sub < n) (u.sub ≡ n) (n < u.sub) → (w : Ordering) → MatchOrdering w (u.sub < m) (u.sub ≡ m) (m < u.sub)
        → is_le (ordering_then o t) ≡ true → is_le (ordering_then o w) ≡ true
    by Less t a w b f = refl
    by Equal Less a Less b f = refl
    by Equal Less a Equal b f = refl
    by Equal Less a Greater b f = absurd (omega arith)
    by Equal Equal a Less b f = refl
    by Equal Equal a Equal b f = refl
    by Equal Equal a Greater b f = absurd (omega arith)
    by Equal Greater a w b f = cc
    by Greater t a w b f = cc

pub of-main : (u : Rev) (main n : ℕ) → rev_le u (record { main = main; sub = n }) ≡ false → nat_le main u.main ≡ true
of-main u main n e = by (nat_le main u.main) refl
  where
    by : (b : Bool) → nat_le main u.main ≡ b → b ≡ true
    by true f = refl
    by false f =
        let below : u.main < main = grind (arith, nat_tests) in
        let bad : true ≡ false = sym (rev_le-before u (record { main = main; sub = n }) below) ∙ e in cc

pub stays-none : (vs : List Version) (main sub : ℕ) (r : KeyRange) (k : List ℕ) → PutsNone vs main r → in_range r k ≡ true → 0 < sub
    → value_at vs (place_before main sub) k ≡ None → (s : ℕ) → sub ≤ s → value_at vs (place_before main s) k ≡ None
stays-none vs main zero r k none i l e s m = absurd (omega arith)
stays-none vs main (suc n) r k none i l e zero m = absurd (omega arith)
stays-none vs main (suc n) r k none i l e (suc s) m =
    later-none vs (record { main = main; sub = n }) (record { main = main; sub = s }) k
    (λ u f. rev_le-sub u.rev main n s (omega arith) f) (each-map _ _ tombs vs none) e
  where
    tombs : (u : Version) → (nat_le main u.rev.main ≡ true → in_range r u.key ≡ true → is_tombstone u.body ≡ true)
        → same_key u.key k ≡ true → rev_le u.rev (record { main = main; sub = n }) ≡ false
        → rev_le u.rev (record { main = main; sub = s }) ≡ true → is_tombstone u.body ≡ true
    tombs u h a b c = h (of-main u.rev main n b) (ap (in_range r) (same_key-eq u.key k a) ∙ i)

-- ---- a range of which nothing is put

pub puts-none : (vs : List Version) (main : ℕ) (r : KeyRange) → count_touched (Touch.each r) (put_from main vs) ≡ 0 → PutsNone vs main r
puts-none [] main r h = tt
puts-none (v ∷ vs) main r h = by (nat_le main v.rev.main) refl (is_tombstone v.body) refl h (puts-none vs main r)
  where
    rest : List (List ℕ)
    rest = put_from main vs

    one : (b : Bool) (n : ℕ) → b ≡ true → bit b + n ≡ 0 → ⊥
    one true n i e = omega arith
    one false n i e = cc

    by : (b : Bool) → nat_le main v.rev.main ≡ b → (d : Bool) → is_tombstone v.body ≡ d
        → count_touched (Touch.each r) (put_keys (cond b (v ∷ filter (λ v. nat_le main v.rev.main) vs) (filter (λ v. nat_le main v.rev.main) vs))) ≡ 0
        → (count_touched (Touch.each r) (put_from main vs) ≡ 0 → PutsNone vs main r) → PutsNone (v ∷ vs) main r
    by true e true f g more = ((λ a i. f), more (ap (λ b. count_touched (Touch.each r) (cond b rest (v.key ∷ rest))) (sym f) ∙ g))
    by true e false f g more =
        let both : bit (in_range r v.key) + count_touched (Touch.each r) rest ≡ 0
        = ap (λ b. count_touched (Touch.each r) (cond b rest (v.key ∷ rest))) (sym f) ∙ g in
        let left : count_touched (Touch.each r) rest ≡ 0 = omega (arith, both) in
        ((λ a i. absurd (one (in_range r v.key) (count_touched (Touch.each r) rest) i both)), more left)
    by false e d f g more = ((λ a i. let bad : true ≡ false = sym a ∙ e in cc), more g)

-- ---- what is left is all

of-all : (xs : List KeyValue) → of_keys (λ k. true) xs ≡ xs
of-all [] = refl
of-all (x ∷ xs) = ap (λ ys. x ∷ ys) (of-all xs)

pub but-none : (v : Viewed) (rs : List (Bor KeyRange)) (r : KeyRange) (xs : List KeyValue)
    → ((k : List ℕ) → covers rs k ≡ true → value_at v.versions v.place k ≡ None)
    → AreBut (covers rs) xs (live v.versions v.place r) → xs ≡ live v.versions v.place r
but-none v rs r xs h but = sym (of-all xs) ∙ but (λ k. true) (each-map _ _ none ys (live-shown v.versions v.place r)) ∙ of-all ys
  where
    ys : List KeyValue
    ys = live v.versions v.place r

    none : (kv : KeyValue) → is_some (value_at v.versions v.place kv.key) ≡ true → covers rs kv.key ≡ true → true ≡ false
    none kv s c = sym s ∙ ap is_some (h kv.key c)

pub held-none : (v : Viewed) (r : KeyRange) (k : List ℕ) → live v.versions v.place r ≡ [] → in_range r k ≡ true
    → value_at v.versions v.place k ≡ None
held-none v r k e i = by (value_at v.versions v.place k) refl
  where
    by : (o : Option KeyValue) → value_at v.versions v.place k ≡ o → o ≡ None
    by None f = refl
    by (Some kv) f = let bad : true ≡ false = sym (in-live v r k i (ap is_some f)) ∙ ap (λ kvs. has_key k (keys_of kvs)) e in cc

-- ---- on and on

pub emptied-later : (vs : List Version) (main sub next : ℕ) (e : Emptied) → sub ≤ next → AreEmptied vs main sub e → AreEmptied vs main next e
emptied-later vs main sub next e l h = record { puts = h.puts; none = λ k c s m. h.none k c s (omega (arith, l, m)) }

-- with a range more of which nothing is seen and nothing is put
pub emptied-more : (vs : List Version) (main sub : ℕ) (e : Emptied) (rs : List (Bor KeyRange)) (r : KeyRange) → AreEmptied vs main sub e
    → ((k : List ℕ) → covers rs k ≡ true → (covers e.ranges.items k || in_range r k) ≡ true) → PutsNone vs main r → 0 < sub
    → ((k : List ℕ) → in_range r k ≡ true → value_at vs (place_before main sub) k ≡ None)
    → (k : List ℕ) → covers rs k ≡ true → (s : ℕ) → sub ≤ s → value_at vs (place_before main s) k ≡ None
emptied-more vs main sub e rs r h more none l held k c s m = by (covers e.ranges.items k) refl (more k c)
  where
    by : (b : Bool) → covers e.ranges.items k ≡ b → (b || in_range r k) ≡ true → value_at vs (place_before main s) k ≡ None
    by true f g = h.none k f s m
    by false f g = stays-none vs main sub r k none g l (held k g) s m

pub puts-sorted : (vs : List Version) (main sub : ℕ) (e : Emptied) → AreEmptied vs main sub e → MatchOption e.puts ⊤ (λ ks. AreSorted ks.items)
puts-sorted vs main sub e h = by e.puts h.puts
  where
    by : (o : Option (Vec (Bor (List ℕ)) Global)) → MatchOption o ⊤ (λ ks. AreSorted ks.items
        × ((t : Touch) → count_touched t (keys_view ks.items) ≡ count_touched t (put_from main vs))) → MatchOption o ⊤ (λ ks. AreSorted ks.items)
    by None g = tt
    by (Some ks) g = g.0

pub put_keys-first : (v : Version) (vs : List Version) → put_keys (v ∷ vs) ≡ put_keys (v ∷ []) ++ put_keys vs
put_keys-first v vs = by (is_tombstone v.body)
  where
    by : (b : Bool) → cond b (put_keys vs) (v.key ∷ put_keys vs) ≡ cond b [] (v.key ∷ []) ++ put_keys vs
    by true = refl
    by false = refl

pub put-more : (xs : List Touched) (t : Touched)
    → keys_put (map touch_view (xs ++ t ∷ [])) ≡ keys_put (map touch_view xs) ++ keys_put (touch_view t ∷ [])
put-more xs t = ap keys_put (map-append touch_view xs (t ∷ [])) ∙ keys_put-append (map touch_view xs) (touch_view t ∷ [])

pub counts-at : (vs : List Version) (main sub : ℕ) (e : Emptied) (ks : Vec (Bor (List ℕ)) Global) → AreEmptied vs main sub e
    → e.puts ≡ Some ks → (t : Touch) → count_touched t (keys_view ks.items) ≡ count_touched t (put_from main vs)
counts-at vs main sub e ks h is = (subst (λ (o : Option (Vec (Bor (List ℕ)) Global)). MatchOption o ⊤ (λ ks. AreSorted ks.items
    × ((t : Touch) → count_touched t (keys_view ks.items) ≡ count_touched t (put_from main vs)))) is h.puts).1

pub none-counted : (n : ℕ) → nat_eq n 0 ≡ true → n ≡ 0
none-counted n h = grind (arith, nat_tests)

pub items-none : {X : Type 0} (xs : List X) (b : Bool) → b ≡ nat_eq (length xs) 0 → not b ≡ false → xs ≡ []
items-none [] b e h = refl
items-none (x ∷ xs) b e h =
    let some : nat_eq (length (x ∷ xs)) 0 ≡ false = grind (arith, nat_tests) in
    let bad : true ≡ false = sym (ap not (e ∙ some)) ∙ h in cc

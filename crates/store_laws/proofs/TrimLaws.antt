-- What a trimming step takes out changes no answer.
use Rattle.std.proofs.Common.{◌≡◌, ◌≤◌, ◌<◌, ◌≢◌, ◌⊎◌, ℕ, ◌-◌, ◌^◌, List, [], ◌∷◌, ◌++◌, Bool, true, false, ◌&&◌, ◌||◌, cond, Option, None, Some}
use Rattle.std.proofs.Common.{is_some, refl, sym, ◌∙◌, ap, inl, inr, arith}
use Rattle.std.specs.Prelude.{⊤, nat_lt, nat_le}
use Rattle.std.proofs.lemmas.Bool.{leb-true, le-leb, ltb-true, and_parts}
use Rattle.std.proofs.lemmas.List.Folds.{list_any-append}
use Rattle.std.specs.Option.{option_or}
use Rattle.std.specs.List.{AllByRecursion, list_any}
use Rattle.std.specs.declared.cmp.Ordering.{Ordering}
use Rattle.std.specs.declared.cmp.Ordering.TheVariants.{Less, Equal, Greater}
use Rattle.std.specs.Ordering.{nat_cmp, MatchOrdering}
use Rattle.std.specs.Cmp.{ranks}
use Rattle.std.proofs.Math.Bool.{or-true}
use Rattle.kv_model.specs.declared.version.Rev.{Rev}
use Rattle.kv_model.specs.declared.version.Version.{Version}
use Rattle.kv_model.specs.declared.version.Body.{Body}
use Rattle.kv_model.specs.declared.version.Body.TheVariants.{Put, Gone}
use Rattle.kv_model.specs.Lists.{IsPart, nothing, keep, leave}
use Rattle.kv_model.specs.Keys.{same_key}
use Rattle.kv_model.specs.History.{Mutation, now, dress, dress_after, latest, value_at, rev_le, rev_lt, end_of}
use Rattle.store_laws.specs.Sound.{IsChange, IsHistory}
use Rattle.kv_model.specs.History.{is_superseded, is_tombstone}
use Rattle.store_laws.specs.Trimming.{is_trimmed}
use Rattle.store_laws.proofs.HistoryLaws.{same_key-eq, AllByRecursion-split}
use Rattle.store_laws.proofs.Compacting.{superseded-out, tombstone-out}
use Rattle.store_laws.proofs.PlaceLaws.{each-map, each-part, each-dressed, each-change, mains-by, last_that-none, rev_le-end, rev_le-after}
use Rattle.store_laws.proofs.KeyLaws.{same-refl}
use Rattle.store_laws.proofs.RevOrder.{ranked, rev_lt-main, rev_lt-turn, rev_lt-self}

-- ---- versions of a history: they rise, and no key stands twice at one main revision

abbrev pub Precedes : Version → Version → Type 0
Precedes v w = (rev_lt v.rev w.rev ≡ true) × (v.rev.main ≡ w.rev.main → v.key ≢ w.key)

abbrev pub AreRising : List Version → Type 0
AreRising [] = ⊤
AreRising (v ∷ vs) = AllByRecursion (Precedes v) vs × AreRising vs

each-after : (P : Rev → List ℕ → Type 0) (before ms : List Mutation) → AllByRecursion (λ m. P m.rev m.key) ms
    → AllByRecursion (λ v. P v.rev v.key) (dress_after before ms)
each-after P before [] h = tt
each-after P before (m ∷ ms) h = (h.0, each-after P (before ++ m ∷ []) ms h.1)

rising-after : (before ms : List Mutation) → IsHistory ms → AreRising (dress_after before ms)
rising-after before [] h = tt
rising-after before (m ∷ ms) h = (
  each-after (λ p k. (rev_lt m.rev p ≡ true) × (m.rev.main ≡ p.main → m.key ≢ k)) (before ++ m ∷ []) ms h.1,
  rising-after (before ++ m
      ∷ []) ms h.2,
)

pub rising-dress : (ms : List Mutation) → IsHistory ms → AreRising (dress ms)
unfolding dress
rising-dress ms h = rising-after [] ms h

pub rising-part : {us vs : List Version} → IsPart us vs → AreRising vs → AreRising us
rising-part nothing h = tt
rising-part (keep {x = x} p) h = (each-part (Precedes x) p h.0, rising-part p h.1)
rising-part (leave p) h = rising-part p h.1

-- those before a version and those after it
pub rising-mid : (xs : List Version) (v : Version) (ys : List Version) → AreRising (xs ++ v ∷ ys) → AllByRecursion (λ u. Precedes u v) xs
    × AllByRecursion (Precedes v) ys
rising-mid [] v ys h = (tt, h.0)
rising-mid (x ∷ xs) v ys h = let r = rising-mid xs v ys h.1 in (((AllByRecursion-split (Precedes x) xs (v ∷ ys) h.0).1.0, r.0), r.1)

-- versions that stand before another, and numbers within a revision that fit 64 bits
abbrev pub AreBefore : Version → List Version → Type 0
AreBefore v us = AllByRecursion (λ u. rev_lt u.rev v.rev ≡ true) us

abbrev pub AreNumbered : List Version → Type 0
AreNumbered vs = AllByRecursion (λ v. v.rev.sub < 2 ^ 64) vs

pub before-mid : (xs : List Version) (v : Version) (ys : List Version) → AreRising (xs ++ v ∷ ys) → AreBefore v xs
before-mid xs v ys h = each-map (λ u. Precedes u v) (λ u. rev_lt u.rev v.rev ≡ true) (λ u a. a.0) xs (rising-mid xs v ys h).0

-- where a version of a history that comes to a revision stands
pub record Sits (n : ℕ) (p : Rev) (k : List ℕ) : Type 0 where
  pub above : 1 < p.main
  pub number : p.sub < 2 ^ 64
  pub by : p.main ≤ n
  pub has_key : k ≢ []

abbrev pub AllSit : ℕ → List Version → Type 0
AllSit n vs = AllByRecursion (λ v. Sits n v.rev v.key) vs

all-sit : (n : ℕ) (ms : List Mutation) → AllByRecursion IsChange ms → AllByRecursion (λ m. m.rev.main ≤ n) ms
    → AllByRecursion (λ m. Sits n m.rev m.key) ms
all-sit n [] h g = tt
all-sit n (m ∷ ms) h g = (record { above = h.0.behind; number = h.0.number; by = g.0; has_key = h.0.has_key }, all-sit n ms h.1 g.1)

pub sit-numbers : (n : ℕ) (vs : List Version) → AllSit n vs → AreNumbered vs
sit-numbers n vs s = each-map (λ v. Sits n v.rev v.key) (λ v. v.rev.sub < 2 ^ 64) (λ v a. a.number) vs s

pub sit-part : (vs : List Version) (ms : List Mutation) → IsPart vs (dress ms) → IsHistory ms → AllSit (now ms) vs
sit-part vs ms p h = each-part (λ v. Sits (now ms) v.rev v.key) p (each-dressed (Sits (now ms)) ms (all-sit (now ms) ms (each-change ms h)
    (mains-by ms h)))

-- ---- a version that another replaces

-- at or below r, the second replaces the first
abbrev pub replaces : ℕ → Version → Version → Bool
replaces r v u = same_key u.key v.key && rev_lt v.rev u.rev && nat_le u.rev.main r

pub record Replaces (r : ℕ) (v u : Version) : Type 0 where
  pub key : u.key ≡ v.key
  pub later : rev_lt v.rev u.rev ≡ true
  pub by : u.rev.main ≤ r

pub replaces-of : (r : ℕ) (v u : Version) → replaces r v u ≡ true → Replaces r v u
replaces-of r v u e = by (same_key u.key v.key) refl (rev_lt v.rev u.rev) refl (nat_le u.rev.main r) refl e
  where
    by : (a : Bool) → same_key u.key v.key ≡ a → (b : Bool) → rev_lt v.rev u.rev ≡ b → (c : Bool) → nat_le u.rev.main r ≡ c → (a && b && c)
        ≡ true → Replaces r v u
    by true d true f true g e = record { key = same_key-eq u.key v.key d; later = f; by = leb-true u.rev.main r g }
    by true d true f false g e = cc
    by true d false f c g e = cc
    by false d b f c g e = cc

pub replaces-as : (r : ℕ) (v u : Version) → Replaces r v u → replaces r v u ≡ true
replaces-as r v u h = λ i. (ap (λ k. same_key k v.key) h.key ∙ same-refl v.key) i && h.later i && le-leb u.rev.main r h.by i

pub replaces-not : (r : ℕ) (v u : Version) → (Replaces r v u → ⊥) → replaces r v u ≡ false
replaces-not r v u h = by (replaces r v u) refl
  where
    by : (b : Bool) → replaces r v u ≡ b → b ≡ false
    by true e = absurd (h (replaces-of r v u e))
    by false e = refl

-- none before it does, nor it itself
none-before : (r : ℕ) (v : Version) (xs : List Version) → AreBefore v xs → list_any (replaces r v) xs ≡ false
none-before r v [] h = refl
none-before r v (x ∷ xs) h = λ i. replaces-not r v x (λ p. let e : true ≡ false = sym p.later ∙ rev_lt-turn x.rev v.rev h.0 in cc) i
    || none-before r v xs h.1 i

pub superseded-mid : (xs : List Version) (v : Version) (ys : List Version) (r : ℕ) → AreBefore v xs
    → is_superseded (xs ++ v ∷ ys) r v ≡ list_any (replaces r v) ys
unfolding is_superseded
superseded-mid xs v ys r h = list_any-append (replaces r v) xs (v ∷ ys)
    ∙ λ i. none-before r v xs h i || (replaces-not r v v (λ p. let e : true ≡ false = sym p.later ∙ rev_lt-self v.rev
    in cc) i || list_any (replaces r v) ys)

-- what is replaced is below
pub low : (r : ℕ) (v : Version) (ys : List Version) → AllByRecursion (Precedes v) ys → list_any (replaces r v) ys ≡ true → v.rev.main < r
low r v [] h e = cc
low r v (u ∷ ys) h e = by (replaces r v u) refl (low r v ys h.1) e
  where
    main : Replaces r v u → (o : Ordering) → MatchOrdering o (v.rev.main < u.rev.main) (v.rev.main ≡ u.rev.main) (u.rev.main < v.rev.main)
        → v.rev.main < r
    main p Less a = let g : u.rev.main ≤ r = p.by in omega arith
    main p Equal a = absurd (h.0.1 a (sym p.key))
    main p Greater a = let g : v.rev.main ≤ u.rev.main = rev_lt-main v.rev u.rev p.later in absurd (omega arith)

    by : (b : Bool) → replaces r v u ≡ b → (list_any (replaces r v) ys ≡ true → v.rev.main < r) → (b || list_any (replaces r v) ys) ≡ true
        → v.rev.main < r
    by true f rest e = main (replaces-of r v u f) (nat_cmp v.rev.main u.rev.main) (ranks v.rev.main u.rev.main)
    by false f rest e = rest e

-- what replaces it is seen at the end of any later revision
pub seen : (c r : ℕ) (v : Version) (k : List ℕ) (ys : List Version) → c ≤ r → v.key ≡ k → AreNumbered ys → list_any (replaces c v) ys ≡ true
    → is_some (latest ys (end_of r) k) ≡ true
seen c r v k [] l d s e = cc
seen c r v k (u ∷ ys) l d s e = by (replaces c v u) refl (seen c r v k ys l d s.1) e
  where
    test : Replaces c v u → (same_key u.key k && rev_le u.rev (end_of r)) ≡ true
    test p = λ i. (ap (λ j. same_key j k) (p.key ∙ d) ∙ same-refl k) i && rev_le-end u.rev r (let f : u.rev.main ≤ c = p.by
        in omega arith) s.0 i

    here : (o : Option Version) → is_some (option_or o (Some u)) ≡ true
    here None = refl
    here (Some w) = refl

    there : (o : Option Version) (b : Bool) → is_some o ≡ true → is_some (option_or o (cond b (Some u) None)) ≡ true
    there None b f = cc
    there (Some w) b f = refl

    by : (b : Bool) → replaces c v u ≡ b → (list_any (replaces c v) ys ≡ true → is_some (latest ys (end_of r) k) ≡ true)
        → (b || list_any (replaces c v) ys) ≡ true → is_some (latest (u ∷ ys) (end_of r) k) ≡ true
    by true f rest e = ap (λ b. is_some (option_or (latest ys (end_of r) k) (cond b (Some u) None))) (test (replaces-of c v u f))
        ∙ here (latest ys (end_of r) k)
    by false f rest e = there (latest ys (end_of r) k) (same_key u.key k && rev_le u.rev (end_of r)) (rest e)

-- and what is not replaced is the last that is seen
pub last_seen : (r : ℕ) (v : Version) (ys : List Version) → AllByRecursion (Precedes v) ys → list_any (replaces r v) ys ≡ false
    → latest ys (end_of r) v.key ≡ None
last_seen r v [] h e = refl
last_seen r v (u ∷ ys) h e = by (replaces r v u) refl (last_seen r v ys h.1) e
  where
    hidden : (a b : Bool) → same_key u.key v.key ≡ a → rev_le u.rev (end_of r) ≡ b → replaces r v u ≡ false → (a && b) ≡ false
    hidden true true d f g = absurd (let e : true ≡ false = sym (replaces-as r v u (record {
      key = same_key-eq u.key v.key d;
      later = h.0.0;
      by = within;
    })) ∙ g in cc)
      where
        within : u.rev.main ≤ r
        within = elim (ranked u.rev.main r) [
          | inl a ↦ a
          | inr b ↦ absurd (let x : true ≡ false = sym f ∙ rev_le-after u.rev (end_of r) b
              in cc)
        ]
    hidden true false d f g = refl
    hidden false b d f g = refl

    by : (b : Bool) → replaces r v u ≡ b → (list_any (replaces r v) ys ≡ false → latest ys (end_of r) v.key ≡ None)
        → (b || list_any (replaces r v) ys) ≡ false → latest (u ∷ ys) (end_of r) v.key ≡ None
    by true f rest e = cc
    by false f rest e = λ i. option_or (rest e i) (cond (hidden (same_key u.key v.key) (rev_le u.rev (end_of r)) refl refl f i) (Some u)
        None)

-- ---- what goes

-- nothing of these goes, in a list of versions
abbrev pub AreLeft : List Version → ℕ → List Version → Type 0
AreLeft vs c us = AllByRecursion (λ u. (nat_le u.rev.main c && is_trimmed vs c u) ≡ false) us

gone-body : (b : Body) → is_tombstone b ≡ true → b ≡ Gone
gone-body (Put create version lease value) e = cc
gone-body Gone e = refl

-- a version that goes is replaced below the compaction, or it is a tombstone
why-goes : (vs : List Version) (c : ℕ) (v : Version) → is_trimmed vs c v ≡ true → (is_superseded vs (c - 1) v ≡ true) ⊎ (v.body ≡ Gone)
why-goes vs c v e = by (is_superseded vs (c - 1) v) refl e
  where
    by : (b : Bool) → is_superseded vs (c - 1) v ≡ b → (b || (is_tombstone v.body && nat_lt v.rev.main c)) ≡ true
        → (is_superseded vs (c - 1) v ≡ true) ⊎ (v.body ≡ Gone)
    by true f e = inl f
    by false f e = inr (gone-body v.body (and_parts (is_tombstone v.body) (nat_lt v.rev.main c) e).0)

-- what is replaced is not above, in any list
not-above : (r : ℕ) (v : Version) (us : List Version) → list_any (replaces r v) us ≡ true → v.rev.main ≤ r
not-above r v [] e = cc
not-above r v (u ∷ us) e = by (replaces r v u) refl (not-above r v us) e
  where
    by : (b : Bool) → replaces r v u ≡ b → (list_any (replaces r v) us ≡ true → v.rev.main ≤ r) → (b || list_any (replaces r v) us) ≡ true
        → v.rev.main ≤ r
    by true f rest e =
        let p : Replaces r v u = replaces-of r v u f in
        let a : v.rev.main ≤ u.rev.main = rev_lt-main v.rev u.rev p.later in
        let b : u.rev.main ≤ r = p.by in omega arith
    by false f rest e = rest e

-- so what goes is below the compaction, in any list
pub goes-by : (vs : List Version) (c : ℕ) (v : Version) → is_trimmed vs c v ≡ true → v.rev.main ≤ c - 1
unfolding is_superseded
goes-by vs c v e = by (is_superseded vs (c - 1) v) refl e
  where
    by : (b : Bool) → is_superseded vs (c - 1) v ≡ b → (b || (is_tombstone v.body && nat_lt v.rev.main c)) ≡ true → v.rev.main ≤ c - 1
    by true f e = not-above (c - 1) v vs f
    by false f e = let a : v.rev.main < c = ltb-true v.rev.main c (and_parts (is_tombstone v.body) (nat_lt v.rev.main c) e).1 in omega arith

-- and where no key stands twice at a revision, strictly
pub goes-below : (xs : List Version) (v : Version) (ys : List Version) (c : ℕ) → AreRising (xs ++ v ∷ ys)
    → is_trimmed (xs ++ v ∷ ys) c v ≡ true → v.rev.main < c
goes-below xs v ys c h e = by (is_superseded (xs ++ v ∷ ys) (c - 1) v) refl e
  where
    by : (b : Bool) → is_superseded (xs ++ v ∷ ys) (c - 1) v ≡ b → (b || (is_tombstone v.body && nat_lt v.rev.main c)) ≡ true
        → v.rev.main < c
    by true f e =
        let a : v.rev.main < c - 1 = low (c - 1) v ys (rising-mid xs v ys h).1 (sym (superseded-mid xs v ys (c - 1) (before-mid xs v ys h))
        ∙ f) in omega arith
    by false f e = ltb-true v.rev.main c (and_parts (is_tombstone v.body) (nat_lt v.rev.main c) e).1

-- a version below the compaction goes, and nothing that stands before it does
pub record GoesNext (c : ℕ) (xs : List Version) (v : Version) (ys : List Version) : Type 0 where
  pub by : v.rev.main ≤ c - 1
  pub goes : is_trimmed (xs ++ v ∷ ys) c v ≡ true
  pub before : AreBefore v xs
  pub left : AreLeft (xs ++ v ∷ ys) c xs
  pub numbers : AreNumbered ys

-- where nothing before a tombstone goes, no version before it has its key
no-earlier : (vs : List Version) (c : ℕ) (v : Version) (us : List Version) → v.rev.main ≤ c - 1
    → ((u : Version) → replaces (c - 1) u v ≡ true → is_superseded vs (c - 1) u ≡ true)
    → AreLeft vs c us → AreBefore v us → AllByRecursion (λ u. same_key u.key v.key ≡ false) us
no-earlier vs c v [] l f h g = tt
no-earlier vs c v (u ∷ us) l f h g = (by (same_key u.key v.key) refl, no-earlier vs c v us l f h.1 g.1)
  where
    by : (b : Bool) → same_key u.key v.key ≡ b → b ≡ false
    by true e =
        let p : Replaces (c - 1) u v = record { key = sym (same_key-eq u.key v.key e); later = g.0; by = l } in
        let m : u.rev.main ≤ v.rev.main = rev_lt-main u.rev v.rev g.0 in
        let x : true ≡ false = (λ i. sym (le-leb u.rev.main c (omega arith)) i && (sym (f u (replaces-as (c - 1) u v p)) i
        || (is_tombstone u.body && nat_lt u.rev.main c))) ∙ h.0 in cc
    by false e = refl

-- what goes is not missed at the end of a revision from that before the compaction on
pub out-values : (c r : ℕ) (xs : List Version) (v : Version) (ys : List Version) (k : List ℕ) → c - 1 ≤ r → GoesNext c xs v ys
    → value_at (xs ++ v ∷ ys) (end_of r) k ≡ value_at (xs ++ ys) (end_of r) k
unfolding is_superseded
out-values c r xs v ys k l h = by (why-goes (xs ++ v ∷ ys) c v h.goes)
  where
    keyed : (a b : Bool) → same_key v.key k ≡ a → (a && b) ≡ true → v.key ≡ k
    keyed true b d e = same_key-eq v.key k d
    keyed false b d e = cc

    has : (u : Version) → replaces (c - 1) u v ≡ true → list_any (replaces (c - 1) u) (xs ++ v ∷ ys) ≡ true
    has u e = list_any-append (replaces (c - 1) u) xs (v ∷ ys)
        ∙ ap (λ b. list_any (replaces (c - 1) u) xs || (b || list_any (replaces (c - 1) u) ys)) e
        ∙ or-true (list_any (replaces (c - 1) u) xs)

    earlier : AllByRecursion (λ u. same_key u.key v.key ≡ false) xs
    earlier = no-earlier (xs ++ v ∷ ys) c v xs h.by has h.left h.before

    absent : v.key ≡ k → latest xs (end_of r) k ≡ None
    absent d = last_that-none (λ u. same_key u.key k && rev_le u.rev (end_of r)) xs
        (each-map (λ u. same_key u.key v.key ≡ false) (λ u. (same_key u.key k && rev_le u.rev (end_of r)) ≡ false) (λ u e. ap (λ b. b
        && rev_le u.rev (end_of r)) (ap (same_key u.key) (sym d) ∙ e)) xs earlier)

    by : (is_superseded (xs ++ v ∷ ys) (c - 1) v ≡ true) ⊎ (v.body ≡ Gone) → value_at (xs ++ v ∷ ys) (end_of r) k
        ≡ value_at (xs ++ ys) (end_of r) k
    by (inl f) = superseded-out xs v ys (end_of r) k (λ e. seen (c - 1) r v k ys l (keyed (same_key v.key k) (rev_le v.rev (end_of r)) refl e)
        h.numbers (sym (superseded-mid xs v ys (c - 1) h.before) ∙ f))
    by (inr f) = tombstone-out xs v ys (end_of r) k f (λ e. absent (keyed (same_key v.key k) (rev_le v.rev (end_of r)) refl e))

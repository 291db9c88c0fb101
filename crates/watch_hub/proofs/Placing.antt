-- Watches at places: what is listed, and how the list changes.
use Rattle.std.proofs.Common.{◌≡◌, ◌≢◌, ℕ, zero, suc, ◌+◌, ◌<◌, ◌≤◌, List, [], ◌∷◌, ◌++◌, map, filter, Bool, true, false, not, ◌&&◌}
use Rattle.std.proofs.Common.{◌==◌, cond, Option, None, Some, option_map, option_and_then, refl, sym, ◌∙◌, ap, subst, arith}
use Rattle.std.specs.Prelude.{unwrap_or, is_some, IfSome, OnSome}
use Rattle.std.specs.List.{AllByRecursion, remove}
use Rattle.std.proofs.lemmas.Bool.Decides.{nat_tests}
use Rattle.kv_model.specs.declared.version.Version.{Version}
use Rattle.store_laws.specs.Stands.{Tracked, noted, first_main_of, still_ahead, is_reached}
use Rattle.kv_model.specs.Watches.{matches}
use Rattle.std.specs.Option.{option_or}
use Rattle.slab.specs.Slab.{Slab, get}
use Rattle.watch_hub.specs.declared.entry.Entry.{Entry}
use Rattle.watch_hub.specs.declared.entries.Place.{Place}
use Rattle.watch_hub.specs.Hub.{NumbersAscend, has_number, tracked_at, without_tracked}
use Rattle.watch_hub.specs.Entries.{AreUpTo, tracked_of, seen_in, no_watch, listed, AreAscending, ArePlaced, index_of, key_of}

abbrev pub number_of : Option Tracked → Option ℕ
number_of o = option_map (λ t. t.number) o

abbrev pub ArePresent : (ℕ → Option Tracked) → List Place → Type 0
ArePresent seen ps = AllByRecursion (λ p. number_of (seen p.key) ≡ Some p.number) ps

abbrev pub AreOthers : ℕ → List Place → Type 0
AreOthers n ps = AllByRecursion (λ p. (p.number == n) ≡ false) ps

number-is : (o : Option Tracked) (m : ℕ) → number_of o ≡ Some m → (unwrap_or o no_watch).number ≡ m
number-is None m h = absurd (cc)
number-is (Some t) m h = cc

is-there : (o : Option Tracked) (m : ℕ) → number_of o ≡ Some m → Some (unwrap_or o no_watch) ≡ o
is-there None m h = absurd (cc)
is-there (Some t) m h = refl

later-placed : (seen : ℕ → Option Tracked) (p : Place) (ps : List Place) → ArePlaced seen (p ∷ ps) → ArePlaced seen ps
later-placed seen p ps h = record { ascending = h.ascending.1; present = h.present.1 }

-- ---- a look-up

pub found : (seen : ℕ → Option Tracked) (n : ℕ) (ps : List Place) → ArePresent seen ps
    → tracked_at (listed seen ps) n ≡ option_and_then seen (key_of n ps)
found seen n [] h = refl
found seen n (p ∷ ps) h =
    ap (λ m. cond (m == n) (Some (unwrap_or (seen p.key) no_watch)) (tracked_at (listed seen ps) n)) (number-is (seen p.key) p.number h.0)
    ∙ by (found seen n ps h.1) (p.number == n)
  where
    by : tracked_at (listed seen ps) n ≡ option_and_then seen (key_of n ps) → (b : Bool)
        → cond b (Some (unwrap_or (seen p.key) no_watch)) (tracked_at (listed seen ps) n)
        ≡ option_and_then seen (cond b (Some p.key) (key_of n ps))
    by later true = is-there (seen p.key) p.number h.0
    by later false = later

pub key-number : (seen : ℕ → Option Tracked) (n : ℕ) (ps : List Place) (key : ℕ) → ArePresent seen ps → key_of n ps ≡ Some key
    → number_of (seen key) ≡ Some n
key-number seen n [] key h e = absurd (cc)
key-number seen n (p ∷ ps) key h e = by (key-number seen n ps key h.1) (p.number == n) refl e
  where
    by : (key_of n ps ≡ Some key → number_of (seen key) ≡ Some n) → (b : Bool) → (p.number == n) ≡ b
        → cond b (Some p.key) (key_of n ps) ≡ Some key → number_of (seen key) ≡ Some n
    by later true f e =
        let same : p.key ≡ key = cc in
        let number : p.number ≡ n = grind (arith, nat_tests) in
        ap (λ k. number_of (seen k)) (sym same) ∙ h.0 ∙ ap Some number
    by later false f e = later e

pub some-found : (seen : ℕ → Option Tracked) (n : ℕ) (ps : List Place) (key : ℕ) → ArePresent seen ps → key_of n ps ≡ Some key
    → is_some (tracked_at (listed seen ps) n) ≡ true
some-found seen n ps key h e = ap is_some (found seen n ps h ∙ ap (option_and_then seen) e) ∙ by (seen key) (key-number seen n ps key h e)
  where
    by : (o : Option Tracked) → number_of o ≡ Some n → is_some o ≡ true
    by None f = absurd (cc)
    by (Some t) f = refl

-- ---- one key changes

-- what is seen under keys before and after a change of one of them
pub record KeyChange : Type 0 where
  pub before : ℕ → Option Tracked
  pub after : ℕ → Option Tracked
  pub key : ℕ
  pub others : (other : ℕ) → other ≢ key → after other ≡ before other

-- what is seen of a slab of which one key changes
abbrev pub slab-change : (old new : Slab Entry) (key : ℕ) → ((other : ℕ) → other ≢ key → get new other ≡ get old other) → KeyChange
slab-change old new key others = record {
  before = seen_in old;
  after = seen_in new;
  key = key;
  others = λ other d. ap (λ (o : Option Entry). option_map tracked_of o) (others other d);
}

key-differs : (c : KeyChange) (n : ℕ) (p : Place) → number_of (c.before c.key) ≡ Some n → number_of (c.before p.key) ≡ Some p.number
    → (p.number == n) ≡ false → p.key ≢ c.key
key-differs c n p h g e same =
    let number : Some p.number ≡ Some n = sym g ∙ ap (λ k. number_of (c.before k)) same ∙ h in
    let equal : p.number ≡ n = cc in
    grind (arith, nat_tests)

others-listed : (c : KeyChange) (n : ℕ) (ps : List Place) → number_of (c.before c.key) ≡ Some n → ArePresent c.before ps → AreOthers n ps
    → listed c.after ps ≡ listed c.before ps
others-listed c n [] e h a = refl
others-listed c n (p ∷ ps) e h a =
    λ i. unwrap_or (c.others p.key (key-differs c n p e h.0 a.0) i) no_watch ∷ others-listed c n ps e h.1 a.1 i

others-present : (c : KeyChange) (n : ℕ) (ps : List Place) → number_of (c.before c.key) ≡ Some n → ArePresent c.before ps → AreOthers n ps
    → ArePresent c.after ps
others-present c n [] e h a = tt
others-present c n (p ∷ ps) e h a =
    (ap number_of (c.others p.key (key-differs c n p e h.0 a.0)) ∙ h.0, others-present c n ps e h.1 a.1)

above-others : (n m : ℕ) (ps : List Place) → n ≤ m → AllByRecursion (λ q. m < q.number) ps → AreOthers n ps
above-others n m [] l a = tt
above-others n m (p ∷ ps) l a = ((let above = a.0 in grind (arith, nat_tests)), above-others n m ps l a.1)

abbrev pub changed_by : (Tracked → Tracked) → ℕ → List Tracked → List Tracked
changed_by f n ts = map (λ t. cond (has_number n t) (f t) t) ts

others-kept : (seen : ℕ → Option Tracked) (f : Tracked → Tracked) (n : ℕ) (ps : List Place) → ArePresent seen ps → AreOthers n ps
    → changed_by f n (listed seen ps) ≡ listed seen ps
others-kept seen f n [] h a = refl
others-kept seen f n (p ∷ ps) h a =
    let t : Tracked = unwrap_or (seen p.key) no_watch in
    let other : has_number n t ≡ false = ap (λ m. m == n) (number-is (seen p.key) p.number h.0) ∙ a.0 in
    λ i. cond (other i) (f t) t ∷ others-kept seen f n ps h.1 a.1 i

others-left : (seen : ℕ → Option Tracked) (n : ℕ) (ps : List Place) → ArePresent seen ps → AreOthers n ps
    → without_tracked n (listed seen ps) ≡ listed seen ps
others-left seen n [] h a = refl
others-left seen n (p ∷ ps) h a =
    let t : Tracked = unwrap_or (seen p.key) no_watch in
    let other : has_number n t ≡ false = ap (λ m. m == n) (number-is (seen p.key) p.number h.0) ∙ a.0 in
    λ i. cond (not (other i)) (t ∷ others-left seen n ps h.1 a.1 i) (others-left seen n ps h.1 a.1 i)

unwrapped : (f : Tracked → Tracked) (o : Option Tracked) (m : ℕ) → number_of o ≡ Some m
    → unwrap_or (option_map f o) no_watch ≡ f (unwrap_or o no_watch)
unwrapped f None m h = absurd (cc)
unwrapped f (Some t) m h = refl

pub changed-listed : (c : KeyChange) (f : Tracked → Tracked) (n : ℕ) (ps : List Place) → ArePlaced c.before ps → key_of n ps ≡ Some c.key
    → c.after c.key ≡ option_map f (c.before c.key) → listed c.after ps ≡ changed_by f n (listed c.before ps)
changed-listed c f n [] h e made = refl
changed-listed c f n (p ∷ ps) h e made = by (λ g. changed-listed c f n ps (later-placed c.before p ps h) g made) (p.number == n) refl e
  where
    t : Tracked
    t = unwrap_or (c.before p.key) no_watch

    is : has_number n t ≡ (p.number == n)
    is = ap (λ m. m == n) (number-is (c.before p.key) p.number h.present.0)

    number : number_of (c.before c.key) ≡ Some n
    number = key-number c.before n (p ∷ ps) c.key h.present e

    by : (key_of n ps ≡ Some c.key → listed c.after ps ≡ changed_by f n (listed c.before ps)) → (b : Bool) → (p.number == n) ≡ b
        → cond b (Some p.key) (key_of n ps) ≡ Some c.key
        → listed c.after (p ∷ ps) ≡ cond (has_number n t) (f t) t ∷ changed_by f n (listed c.before ps)
    by later true g e =
        let same : p.key ≡ c.key = cc in
        let equal : p.number ≡ n = grind (arith, nat_tests) in
        let others : AreOthers n ps = above-others n p.number ps (omega arith) h.ascending.0 in
        let head : unwrap_or (c.after p.key) no_watch ≡ f t
        = ap (λ k. unwrap_or (c.after k) no_watch) same ∙ ap (λ x. unwrap_or x no_watch) made
        ∙ ap (λ k. unwrap_or (option_map f (c.before k)) no_watch) (sym same) ∙ unwrapped f (c.before p.key) p.number h.present.0 in
        let rest : listed c.after ps ≡ changed_by f n (listed c.before ps)
        = others-listed c n ps number h.present.1 others ∙ sym (others-kept c.before f n ps h.present.1 others) in
        (λ i. head i ∷ rest i) ∙ ap (λ b. cond b (f t) t ∷ changed_by f n (listed c.before ps)) (sym (is ∙ g))
    by later false g e =
        let head : unwrap_or (c.after p.key) no_watch ≡ t
        = ap (λ x. unwrap_or x no_watch) (c.others p.key (key-differs c n p number h.present.0 g)) in
        let rest : listed c.after ps ≡ changed_by f n (listed c.before ps) = later e in
        (λ i. head i ∷ rest i) ∙ ap (λ b. cond b (f t) t ∷ changed_by f n (listed c.before ps)) (sym (is ∙ g))

-- ---- each changes

pub all-listed : (seen new : ℕ → Option Tracked) (f : Tracked → Tracked) (ps : List Place) → ((k : ℕ) → new k ≡ option_map f (seen k))
    → ArePresent seen ps → listed new ps ≡ map f (listed seen ps)
all-listed seen new f [] e h = refl
all-listed seen new f (p ∷ ps) e h =
    let head : unwrap_or (new p.key) no_watch ≡ f (unwrap_or (seen p.key) no_watch)
    = ap (λ x. unwrap_or x no_watch) (e p.key) ∙ unwrapped f (seen p.key) p.number h.0 in
    λ i. head i ∷ all-listed seen new f ps e h.1 i

-- ---- one is added

-- a key that nothing stands under is none of the places'
vacant-differs : (c : KeyChange) (p : Place) → c.before c.key ≡ None → number_of (c.before p.key) ≡ Some p.number → p.key ≢ c.key
vacant-differs c p v h same = let none : Some p.number ≡ None = sym h ∙ ap (λ k. number_of (c.before k)) same ∙ ap number_of v in cc

pub pushed-listed : (c : KeyChange) (t : Tracked) (ps : List Place) → c.before c.key ≡ None → c.after c.key ≡ Some t
    → ArePresent c.before ps
    → listed c.after (ps ++ (record { number = t.number; key = c.key }) ∷ []) ≡ listed c.before ps ++ t ∷ []
pushed-listed c t [] v made h = ap (λ x. unwrap_or x no_watch ∷ []) made
pushed-listed c t (p ∷ ps) v made h =
    λ i. unwrap_or (c.others p.key (vacant-differs c p v h.0) i) no_watch ∷ pushed-listed c t ps v made h.1 i

present-push : (c : KeyChange) (t : Tracked) (ps : List Place) → c.before c.key ≡ None → c.after c.key ≡ Some t → ArePresent c.before ps
    → ArePresent c.after (ps ++ (record { number = t.number; key = c.key }) ∷ [])
present-push c t [] v made h = (ap number_of made, tt)
present-push c t (p ∷ ps) v made h = (ap number_of (c.others p.key (vacant-differs c p v h.0)) ∙ h.0, present-push c t ps v made h.1)

numbers-below : (seen : ℕ → Option Tracked) (n : ℕ) (ps : List Place) → ArePresent seen ps
    → AllByRecursion (λ t. t.number < n) (listed seen ps)
    → AllByRecursion (λ p. p.number < n) ps
numbers-below seen n [] h a = tt
numbers-below seen n (p ∷ ps) h a =
    (let is = number-is (seen p.key) p.number h.0 in let below = a.0 in omega arith, numbers-below seen n ps h.1 a.1)

above-push : (m : ℕ) (ps : List Place) (q : Place) → AllByRecursion (λ p. m < p.number) ps → m < q.number
    → AllByRecursion (λ p. m < p.number) (ps ++ q ∷ [])
above-push m [] q a h = (h, tt)
above-push m (p ∷ ps) q a h = (a.0, above-push m ps q a.1 h)

ascending-push : (ps : List Place) (q : Place) → AreAscending ps → AllByRecursion (λ p. p.number < q.number) ps
    → AreAscending (ps ++ q ∷ [])
ascending-push [] q r a = (tt, tt)
ascending-push (p ∷ ps) q r a = (above-push p.number ps q r.0 a.0, ascending-push ps q r.1 a.1)

pub pushed-placed : (c : KeyChange) (t : Tracked) (ps : List Place) → c.before c.key ≡ None → c.after c.key ≡ Some t → ArePlaced c.before ps
    → AllByRecursion (λ u. u.number < t.number) (listed c.before ps)
    → ArePlaced c.after (ps ++ (record { number = t.number; key = c.key }) ∷ [])
pushed-placed c t ps v made h a = record {
  ascending = ascending-push ps (record { number = t.number; key = c.key }) h.ascending (numbers-below c.before t.number ps h.present a);
  present = present-push c t ps v made h.present;
}

-- ---- one is taken out

each-removed : (P : Place → Type 0) (ps : List Place) (i : ℕ) → AllByRecursion P ps → AllByRecursion P (remove ps i)
each-removed P [] zero a = tt
each-removed P [] (suc i) a = tt
each-removed P (p ∷ ps) zero a = a.1
each-removed P (p ∷ ps) (suc i) a = (a.0, each-removed P ps i a.1)

ascending-removed : (ps : List Place) (i : ℕ) → AreAscending ps → AreAscending (remove ps i)
ascending-removed [] zero r = tt
ascending-removed [] (suc i) r = tt
ascending-removed (p ∷ ps) zero r = r.1
ascending-removed (p ∷ ps) (suc i) r = (each-removed (λ q. p.number < q.number) ps i r.0, ascending-removed ps i r.1)

module _ (c : KeyChange) (n : ℕ) (number : number_of (c.before c.key) ≡ Some n) where
  -- without the place at the index the list is without the watch of the number, and the others are present
  abbrev IsTaken : List Place → ℕ → Type 0
  IsTaken ps i = (listed c.after (remove ps i) ≡ without_tracked n (listed c.before ps)) × ArePresent c.after (remove ps i)

  taken : (ps : List Place) (i : ℕ) → AreAscending ps → ArePresent c.before ps → index_of n ps ≡ Some i → IsTaken ps i
  taken [] i r h e = absurd (cc)
  taken (p ∷ ps) i r h e = by (λ j f. taken ps j r.1 h.1 f) (p.number == n) refl i e
    where
      t : Tracked
      t = unwrap_or (c.before p.key) no_watch

      is : has_number n t ≡ (p.number == n)
      is = ap (λ m. m == n) (number-is (c.before p.key) p.number h.0)

      left : List Tracked
      left = without_tracked n (listed c.before ps)

      at_tail : ((j : ℕ) → index_of n ps ≡ Some j → IsTaken ps j) → (q : Option ℕ) → index_of n ps ≡ q → (i : ℕ) → (p.number == n) ≡ false
          → option_map suc q ≡ Some i → IsTaken (p ∷ ps) i
      at_tail go None f i g e = absurd (cc)
      at_tail go (Some j) f zero g e = absurd (let k : suc j ≡ zero = cc in omega arith)
      at_tail go (Some j) f (suc i) g e =
          let k : suc j ≡ suc i = cc in
          let l : j ≡ i = omega arith in
          let later = go i (f ∙ ap Some l) in
          let same : c.after p.key ≡ c.before p.key = c.others p.key (key-differs c n p number h.0 g) in (
            (λ m. unwrap_or (same m) no_watch ∷ later.0 m) ∙ ap (λ b. cond (not b) (t ∷ left) left) (sym (is ∙ g)),
            (ap number_of same ∙ h.0, later.1),
          )

      by : ((j : ℕ) → index_of n ps ≡ Some j → IsTaken ps j) → (b : Bool) → (p.number == n) ≡ b → (i : ℕ)
          → cond b (Some 0) (option_map suc (index_of n ps)) ≡ Some i → IsTaken (p ∷ ps) i
      by go true g zero e =
          let equal : p.number ≡ n = grind (arith, nat_tests) in
          let others : AreOthers n ps = above-others n p.number ps (omega arith) r.0 in (
            others-listed c n ps number h.1 others ∙ sym (others-left c.before n ps h.1 others)
                ∙ ap (λ b. cond (not b) (t ∷ left) left) (sym (is ∙ g)),
            others-present c n ps number h.1 others,
          )
      by go true g (suc i) e = absurd (let k : zero ≡ suc i = cc in omega arith)
      by go false g i e = at_tail go (index_of n ps) refl i g e

pub removed : (c : KeyChange) (n i : ℕ) (ps : List Place) → ArePlaced c.before ps → index_of n ps ≡ Some i → key_of n ps ≡ Some c.key
    → (listed c.after (remove ps i) ≡ without_tracked n (listed c.before ps)) × ArePlaced c.after (remove ps i)
removed c n i ps h e k =
    let done = taken c n (key-number c.before n ps c.key h.present k) ps i h.ascending h.present e in
    (done.0, record { ascending = ascending-removed ps i h.ascending; present = done.1 })

-- what is so where something stands under a key is so where a watch of a number does
pub where-there : {P : Type 0} (o : Option Entry) (n : ℕ) → number_of (option_map tracked_of o) ≡ Some n → OnSome o P → P
where-there (Some x) n e h = h
where-there None n e h = absurd (cc)

pub within : (o : Option ℕ) (i n : ℕ) → o ≡ Some i → IfSome o (λ j. j < n) → i < n
within None i n e h = absurd (cc)
within (Some j) i n e h = let same : j ≡ i = cc in omega arith

-- no watch of the number
pub missed : (seen : ℕ → Option Tracked) (n : ℕ) (ps : List Place) → ArePresent seen ps → key_of n ps ≡ None
    → AllByRecursion (λ t. has_number n t ≡ false) (listed seen ps)
missed seen n [] h e = tt
missed seen n (p ∷ ps) h e = by (missed seen n ps h.1) (p.number == n) refl e
  where
    t : Tracked
    t = unwrap_or (seen p.key) no_watch

    by : (key_of n ps ≡ None → AllByRecursion (λ t. has_number n t ≡ false) (listed seen ps)) → (b : Bool) → (p.number == n) ≡ b
        → cond b (Some p.key) (key_of n ps) ≡ None → (has_number n t ≡ false)
        × AllByRecursion (λ t. has_number n t ≡ false) (listed seen ps)
    by later true g e = absurd (cc)
    by later false g e = (ap (λ m. m == n) (number-is (seen p.key) p.number h.0) ∙ g, later e)

pub missed-changed : (f : Tracked → Tracked) (n : ℕ) (ts : List Tracked) → AllByRecursion (λ t. has_number n t ≡ false) ts
    → ts ≡ changed_by f n ts
missed-changed f n [] a = refl
missed-changed f n (t ∷ ts) a = λ i. cond (sym a.0 i) (f t) t ∷ missed-changed f n ts a.1 i

pub missed-left : (n : ℕ) (ts : List Tracked) → AllByRecursion (λ t. has_number n t ≡ false) ts → ts ≡ without_tracked n ts
missed-left n [] a = refl
missed-left n (t ∷ ts) a = λ i. cond (not (sym a.0 i)) (t ∷ missed-left n ts a.1 i) (missed-left n ts a.1 i)

-- ---- numbers stay at most what was made

pub up-to-map : (n : ℕ) (f : Tracked → Tracked) → ((t : Tracked) → (f t).number ≡ t.number) → (ts : List Tracked) → AreUpTo n ts
    → AreUpTo n (map f ts)
up-to-map n f e [] a = tt
up-to-map n f e (t ∷ ts) a = (let same = e t in let below = a.0 in omega arith, up-to-map n f e ts a.1)

pub up-to-filter : (n : ℕ) (p : Tracked → Bool) (ts : List Tracked) → AreUpTo n ts → AreUpTo n (filter p ts)
up-to-filter n p [] a = tt
up-to-filter n p (t ∷ ts) a = by (up-to-filter n p ts a.1) (p t)
  where
    by : AreUpTo n (filter p ts) → (b : Bool) → AreUpTo n (cond b (t ∷ filter p ts) (filter p ts))
    by later true = (a.0, later)
    by later false = later

pub up-to-push : (n : ℕ) (ts : List Tracked) (t : Tracked) → AreUpTo n ts → t.number ≡ n + 1 → AreUpTo (n + 1) (ts ++ t ∷ [])
up-to-push n [] t a e = (omega arith, tt)
up-to-push n (u ∷ ts) t a e = (let below = a.0 in omega arith, up-to-push n ts t a.1 e)

pub changed-number : (f : Tracked → Tracked) (n : ℕ) → ((t : Tracked) → (f t).number ≡ t.number) → (t : Tracked)
    → (cond (has_number n t) (f t) t).number ≡ t.number
changed-number f n e t = by (has_number n t)
  where
    by : (b : Bool) → (cond b (f t) t).number ≡ t.number
    by true = e t
    by false = refl

pub noted-number : (vs : List Version) (now : ℕ) (t : Tracked) → (noted vs now t).number ≡ t.number
noted-number vs now t = by t.late
  where
    by : (b : Bool) → (cond b t (record t {
      first = option_or t.first (first_main_of (filter (λ v. is_reached t.ahead v.rev.main && matches t.watched v) vs));
      ahead = still_ahead now t.ahead;
    })).number ≡ t.number
    by true = refl
    by false = refl

-- ---- the numbers ascend

numbers-above : (seen : ℕ → Option Tracked) (m : ℕ) (ps : List Place) → ArePresent seen ps → AllByRecursion (λ q. m < q.number) ps
    → AllByRecursion (λ t. m < t.number) (listed seen ps)
numbers-above seen m [] h a = tt
numbers-above seen m (p ∷ ps) h a =
    (subst (λ n. m < n) (sym (number-is (seen p.key) p.number h.0)) a.0, numbers-above seen m ps h.1 a.1)

pub listed-ascends : (seen : ℕ → Option Tracked) (ps : List Place) → ArePlaced seen ps → NumbersAscend (listed seen ps)
listed-ascends seen [] h = tt
listed-ascends seen (p ∷ ps) h = (
  subst (λ n. AllByRecursion (λ t. n < t.number) (listed seen ps)) (sym (number-is (seen p.key) p.number h.present.0))
      (numbers-above seen p.number ps h.present.1 h.ascending.0),
  listed-ascends seen ps (later-placed seen p ps h),
)

-- How far a message goes, counted one version after another, is what the definition says of all of them.
use Rattle.std.proofs.Common.{◌≡◌, ◌⊎◌, inl, inr, ℕ, suc, ◌+◌, ◌<◌, ◌≤◌, List, [], ◌∷◌, ◌++◌, length, map, filter, Bool, true, false, ◌&&◌, ◌||◌, ◌==◌, cond, Option, None, Some, option_map, refl, sym, ◌∙◌, ap, subst, append_assoc, arith}
use Rattle.std.specs.Prelude.{nat_lt, nat_le, unwrap_or, ⊤}
use Rattle.std.specs.List.{AllByRecursion}
use Rattle.std.specs.Option.{option_or}
use Rattle.std.proofs.lemmas.Bool.Decides.{nat_tests}
use Rattle.std.proofs.lemmas.List.Recursion.{is_count_by}
use Rattle.kv_model.specs.declared.version.Version.{Version}
use Rattle.kv_model.specs.History.{rev_lt}
use Rattle.kv_model.specs.Lists.{last_that}
use Rattle.kv_model.specs.Watches.{count_up_to, last_revision, most_events}
use Rattle.store_laws.specs.Stands.{first_main_of}
use Rattle.version_table.specs.Rising.{IsRising}
use Rattle.store_laws.proofs.RevOrder.{rev_lt-main}
use Rattle.watch_hub.specs.declared.tally.Tally.{Tally}
use Rattle.watch_hub.specs.Messages.{first_tally, has_room, counted, cut_at, tallied, with_room}

-- ---- how many are of a revision or an earlier one

abbrev up_to : ℕ → List Version → ℕ
up_to m [] = 0
up_to m (v ∷ vs) = cond (nat_le v.rev.main m) (suc (up_to m vs)) (up_to m vs)

up_to-is : (m : ℕ) (vs : List Version) → up_to m vs ≡ count_up_to vs m
up_to-is m vs = is_count_by (up_to m) (λ v. nat_le v.rev.main m) refl (λ x xs. ap (λ k. cond (nat_le x.rev.main m) k (up_to m xs)) (omega arith)) vs

up_to-append : (m : ℕ) (us vs : List Version) → up_to m (us ++ vs) ≡ up_to m us + up_to m vs
up_to-append m [] vs = omega arith
up_to-append m (u ∷ us) vs = by (nat_le u.rev.main m) (up_to-append m us vs)
  where
    by : (b : Bool) → up_to m (us ++ vs) ≡ up_to m us + up_to m vs
        → cond b (suc (up_to m (us ++ vs))) (up_to m (us ++ vs)) ≡ cond b (suc (up_to m us)) (up_to m us) + up_to m vs
    by true e = omega arith
    by false e = e

abbrev AreUpTo : ℕ → List Version → Type 0
AreUpTo m vs = AllByRecursion (λ v. v.rev.main ≤ m) vs

abbrev AreFrom : ℕ → List Version → Type 0
AreFrom m vs = AllByRecursion (λ v. m ≤ v.rev.main) vs

up_to-all : (m n : ℕ) (vs : List Version) → m ≤ n → AreUpTo m vs → up_to n vs ≡ length vs
up_to-all m n [] l h = refl
up_to-all m n (v ∷ vs) l h =
    let here : nat_le v.rev.main n ≡ true = let a = h.0 in grind (arith, nat_tests) in
    ap (λ b. cond b (suc (up_to n vs)) (up_to n vs)) here ∙ ap suc (up_to-all m n vs l h.1)

up_to-none : (m n : ℕ) (vs : List Version) → m < n → AreFrom n vs → up_to m vs ≡ 0
up_to-none m n [] l h = refl
up_to-none m n (v ∷ vs) l h =
    let past : nat_le v.rev.main m ≡ false = let a = h.0 in grind (arith, nat_tests) in
    ap (λ b. cond b (suc (up_to m vs)) (up_to m vs)) past ∙ up_to-none m n vs l h.1

up_to-one : (m : ℕ) (v : Version) (vs : List Version) → v.rev.main ≤ m → 1 ≤ up_to m (v ∷ vs)
up_to-one m v vs l =
    let here : nat_le v.rev.main m ≡ true = grind (arith, nat_tests) in
    subst (λ b. 1 ≤ cond b (suc (up_to m vs)) (up_to m vs)) (sym here) (omega arith)

-- ---- the last that passes a test

abbrev Has : (Version → Bool) → ℕ → List Version → Type 0
Has p m [] = ⊥
Has p m (v ∷ vs) = ((p v ≡ true) × (v.rev.main ≡ m)) ⊎ Has p m vs

abbrev Ascends : List Version → Type 0
Ascends [] = ⊤
Ascends (v ∷ vs) = AreFrom v.rev.main vs × Ascends vs

passed : (p : Version → Bool) (Q : Version → Type 0) (vs : List Version) (w : Version) → AllByRecursion Q vs → last_that p vs ≡ Some w → (p w ≡ true) × Q w
passed p Q [] w h e = absurd (cc)
passed p Q (v ∷ vs) w h e = by (λ e. passed p Q vs w h.1 e) (last_that p vs) refl e
  where
    here : (b : Bool) → p v ≡ b → cond b (Some v) None ≡ Some w → (p w ≡ true) × Q w
    here true f e = let same : v ≡ w = cc in subst (λ x. (p x ≡ true) × Q x) same (f, h.0)
    here false f e = absurd (cc)

    by : (last_that p vs ≡ Some w → (p w ≡ true) × Q w) → (o : Option Version) → last_that p vs ≡ o → option_or o (cond (p v) (Some v) None) ≡ Some w → (p w ≡ true) × Q w
    by later None f e = here (p v) refl e
    by later (Some x) f e = later (f ∙ e)

-- where those that pass are of the revision or earlier ones, and one of it passes, the last one is of it
last-main : (p : Version → Bool) (m : ℕ) (vs : List Version) → Ascends vs → AllByRecursion (λ v. p v ≡ true → v.rev.main ≤ m) vs → Has p m vs
    → option_map (λ v. v.rev.main) (last_that p vs) ≡ Some m
last-main p m [] a h g = absurd g
last-main p m (v ∷ vs) a h (inl g) = by (last_that p vs) refl
  where
    by : (o : Option Version) → last_that p vs ≡ o → option_map (λ w. w.rev.main) (option_or o (cond (p v) (Some v) None)) ≡ Some m
    by None f = ap (λ b. option_map (λ (w : Version). w.rev.main) (cond b (Some v) None)) g.0 ∙ ap Some g.1
    by (Some w) f =
        let most = passed p (λ x. p x ≡ true → x.rev.main ≤ m) vs w h.1 f in
        let least = passed p (λ x. v.rev.main ≤ x.rev.main) vs w a.0 f in
        let upper : w.rev.main ≤ m = most.1 most.0 in
        let lower : v.rev.main ≤ w.rev.main = least.1 in
        let here : v.rev.main ≡ m = g.1 in
        ap Some (omega arith)
last-main p m (v ∷ vs) a h (inr g) = by (last_that p vs) refl (last-main p m vs a.1 h.1 g)
  where
    by : (o : Option Version) → last_that p vs ≡ o → option_map (λ w. w.rev.main) o ≡ Some m → option_map (λ w. w.rev.main) (option_or o (cond (p v) (Some v) None)) ≡ Some m
    by None f e = absurd (cc)
    by (Some w) f e = e

none-last : (p : Version → Bool) (vs : List Version) → AllByRecursion (λ v. p v ≡ false) vs → last_that p vs ≡ None
none-last p [] h = refl
none-last p (v ∷ vs) h = λ i. option_or (none-last p vs h.1 i) (cond (h.0 i) (Some v) None)

-- ---- what the definition tests

abbrev fits : List Version → Version → Bool
fits all v = nat_le (count_up_to all v.rev.main) most_events

fits-by : (all : List Version) (v : Version) (n : ℕ) → up_to v.rev.main all ≡ n → n ≤ most_events → fits all v ≡ true
fits-by all v n e l = let same : count_up_to all v.rev.main ≡ n = sym (up_to-is v.rev.main all) ∙ e in grind (arith, nat_tests)

fails-by : (all : List Version) (v : Version) → most_events < up_to v.rev.main all → fits all v ≡ false
fails-by all v l = let same : up_to v.rev.main all ≡ count_up_to all v.rev.main = up_to-is v.rev.main all in grind (arith, nat_tests)

last-by : (u : Version) (us : List Version) (m : ℕ) → Ascends (u ∷ us) → AllByRecursion (λ v. fits (u ∷ us) v ≡ true → v.rev.main ≤ m) (u ∷ us) → Has (fits (u ∷ us)) m (u ∷ us)
    → last_revision (u ∷ us) ≡ m
last-by u us m a h g = ap (λ o. unwrap_or o u.rev.main) (last-main (fits (u ∷ us)) m (u ∷ us) a h g)

last-none : (u : Version) (us : List Version) → AllByRecursion (λ v. fits (u ∷ us) v ≡ false) (u ∷ us) → last_revision (u ∷ us) ≡ u.rev.main
last-none u us h = ap (λ o. unwrap_or (option_map (λ (v : Version). v.rev.main) o) u.rev.main) (none-last (fits (u ∷ us)) (u ∷ us) h)

-- ---- lists in two parts

all-map : {P Q : Version → Type 0} → ((v : Version) → P v → Q v) → (vs : List Version) → AllByRecursion P vs → AllByRecursion Q vs
all-map f [] h = tt
all-map f (v ∷ vs) h = (f v h.0, all-map f vs h.1)

all-both : (P : Version → Type 0) (us vs : List Version) → AllByRecursion P us → AllByRecursion P vs → AllByRecursion P (us ++ vs)
all-both P [] vs h g = g
all-both P (u ∷ us) vs h g = (h.0, all-both P us vs h.1 g)

has-front : (p : Version → Bool) (m : ℕ) (us vs : List Version) → Has p m us → Has p m (us ++ vs)
has-front p m [] vs h = absurd h
has-front p m (u ∷ us) vs (inl h) = inl h
has-front p m (u ∷ us) vs (inr h) = inr (has-front p m us vs h)

-- a version of this revision is among them
abbrev Holds : ℕ → List Version → Type 0
Holds m vs = Has (λ _. true) m vs

holds-front : (m : ℕ) (us vs : List Version) → Holds m us → Holds m (us ++ vs)
holds-front m us vs h = has-front (λ _. true) m us vs h

holds-last : (us : List Version) (v : Version) → Holds v.rev.main (us ++ v ∷ [])
holds-last [] v = inl (refl, refl)
holds-last (u ∷ us) v = inr (holds-last us v)

has-of : (p : Version → Bool) (m : ℕ) → ((v : Version) → v.rev.main ≡ m → p v ≡ true) → (vs : List Version) → Holds m vs → Has p m vs
has-of p m f [] h = absurd h
has-of p m f (v ∷ vs) (inl h) = inl (f v h.1, h.1)
has-of p m f (v ∷ vs) (inr h) = inr (has-of p m f vs h)

length-last : (us : List Version) (v : Version) → length (us ++ v ∷ []) ≡ suc (length us)
length-last [] v = refl
length-last (u ∷ us) v = ap suc (length-last us v)

-- ---- what was counted of the versions so far

-- all are of the first revision
record IsFirst (m : ℕ) (taken : List Version) (t : Tally) : Type 0 where
  whole : t.whole ≡ t.current
  first : t.current ≡ m
  same : AreFrom t.current taken

-- the revision before the present one has room
record IsLater (taken : List Version) (t : Tally) : Type 0 where
  before : t.whole < t.current
  holds : Holds t.whole taken
  room : up_to t.whole taken ≤ most_events
  between : AllByRecursion (λ v. t.whole < v.rev.main → t.current ≤ v.rev.main) taken
  few : length taken ≤ most_events

record IsTally (m : ℕ) (taken : List Version) (t : Tally) : Type 0 where
  top : AreUpTo t.current taken
  here : Holds t.current taken
  some : t.events < most_events → t.events ≡ length taken
  full : most_events ≤ t.events → most_events ≤ length taken
  state : IsFirst m taken t ⊎ IsLater taken t

-- one more is counted, for which there is room
module _ (m : ℕ) (taken : List Version) (t : Tally) (u : Version) (h : IsTally m taken t) (up : t.current ≤ u.rev.main) where
  top-more : AreUpTo u.rev.main (taken ++ u ∷ [])
  top-more = all-both _ taken (u ∷ []) (all-map (λ v l. omega arith) taken h.top) (omega arith, tt)

  none-more : (n : ℕ) → n < u.rev.main → up_to n (taken ++ u ∷ []) ≡ up_to n taken
  none-more n l = let none : up_to n (u ∷ []) ≡ 0 = up_to-none n u.rev.main (u ∷ []) l (omega arith, tt) in up_to-append n taken (u ∷ []) ∙ omega arith

  same-first : (t.whole ≡ t.current) → (u.rev.main ≡ t.current) → IsFirst m taken t → (events : ℕ)
      → IsFirst m (taken ++ u ∷ []) (record { events = events; whole = t.whole; current = u.rev.main })
  same-first w e f events = record {
    whole = omega arith;
    first = e ∙ f.first;
    same = all-both _ taken (u ∷ []) (all-map (λ v l. omega arith) taken f.same) (omega arith, tt);
  }

  same-later : (u.rev.main ≡ t.current) → length taken < most_events → IsLater taken t → (events : ℕ)
      → IsLater (taken ++ u ∷ []) (record { events = events; whole = t.whole; current = u.rev.main })
  same-later e few f events = record {
    before = let b = f.before in omega arith;
    holds = holds-front t.whole taken (u ∷ []) f.holds;
    room = let r = f.room in let n = none-more t.whole (let b = f.before in omega arith) in omega arith;
    between = all-both _ taken (u ∷ []) (all-map (λ v g l. let b = g l in omega arith) taken f.between) ((λ l. omega arith), tt);
    few = let n = length-last taken u in omega arith;
  }

  new-later : t.current < u.rev.main → length taken < most_events → (events : ℕ)
      → IsLater (taken ++ u ∷ []) (record { events = events; whole = t.current; current = u.rev.main })
  new-later l few events = record {
    before = l;
    holds = holds-front t.current taken (u ∷ []) h.here;
    room = let n = none-more t.current l in let a = up_to-all t.current t.current taken (omega arith) h.top in omega arith;
    between = all-both _ taken (u ∷ []) (all-map (λ v g b. absurd (omega arith)) taken h.top) ((λ b. omega arith), tt);
    few = let n = length-last taken u in omega arith;
  }

  some-more : (a : Bool) → nat_lt t.events most_events ≡ a → cond a (t.events + 1) t.events < most_events → cond a (t.events + 1) t.events ≡ length (taken ++ u ∷ [])
  some-more true f l = let s : t.events ≡ length taken = h.some (grind (arith, nat_tests)) in let n = length-last taken u in omega arith
  some-more false f l = absurd (grind (arith, nat_tests))

  full-more : (a : Bool) → nat_lt t.events most_events ≡ a → most_events ≤ cond a (t.events + 1) t.events → most_events ≤ length (taken ++ u ∷ [])
  full-more true f l = let s : t.events ≡ length taken = h.some (grind (arith, nat_tests)) in let n = length-last taken u in omega arith
  full-more false f l = let s = h.full l in let n = length-last taken u in omega arith

  state-more : (a b : Bool) → nat_lt t.events most_events ≡ a → (u.rev.main == t.current) ≡ b → (a || (b && t.whole == t.current)) ≡ true
      → IsFirst m taken t ⊎ IsLater taken t
      → IsFirst m (taken ++ u ∷ []) (record { events = cond a (t.events + 1) t.events; whole = cond b t.whole t.current; current = u.rev.main })
      ⊎ IsLater (taken ++ u ∷ []) (record { events = cond a (t.events + 1) t.events; whole = cond b t.whole t.current; current = u.rev.main })
  state-more a true f g r (inl s) = inl (same-first s.whole (grind (arith, nat_tests)) s (cond a (t.events + 1) t.events))
  state-more true true f g r (inr s) =
      let few : length taken < most_events = let e : t.events ≡ length taken = h.some (grind (arith, nat_tests)) in grind (arith, nat_tests) in
      inr (same-later (grind (arith, nat_tests)) few s (t.events + 1))
  state-more false true f g r (inr s) = absurd (let b : t.whole < t.current = s.before in grind (arith, nat_tests))
  state-more true false f g r s =
      let few : length taken < most_events = let e : t.events ≡ length taken = h.some (grind (arith, nat_tests)) in grind (arith, nat_tests) in
      inr (new-later (grind (arith, nat_tests)) few (t.events + 1))
  state-more false false f g r s = absurd (cc)

  more : has_room t u.rev.main ≡ true → IsTally m (taken ++ u ∷ []) (counted t u.rev.main)
  more r = record {
    top = top-more;
    here = holds-last taken u;
    some = some-more (nat_lt t.events most_events) refl;
    full = full-more (nat_lt t.events most_events) refl;
    state = state-more (nat_lt t.events most_events) (u.rev.main == t.current) refl refl r h.state;
  }

-- ---- the last revision of the message

module _ (u : Version) (us : List Version) (ascends : Ascends (u ∷ us)) where
  parted : (taken left : List Version) → taken ++ left ≡ u ∷ us → (n : ℕ) → up_to n (u ∷ us) ≡ up_to n taken + up_to n left
  parted taken left e n = ap (up_to n) (sym e) ∙ up_to-append n taken left

  no-fit : (v : Version) (m : ℕ) → most_events < up_to v.rev.main (u ∷ us) → fits (u ∷ us) v ≡ true → v.rev.main ≤ m
  no-fit v m l f = absurd (let g : fits (u ∷ us) v ≡ false = fails-by (u ∷ us) v l in cc)

  -- it is the present one, where what is left is behind it and has no room
  at-current : (taken left : List Version) (t : Tally) → taken ++ left ≡ u ∷ us → IsTally u.rev.main taken t → AreFrom (suc t.current) left
      → AllByRecursion (λ v. most_events < up_to v.rev.main (u ∷ us)) left → t.current ≡ last_revision (u ∷ us)
  at-current taken left t e h above over = by h.state
    where
      count : (v : Version) → v.rev.main ≡ t.current → up_to v.rev.main (u ∷ us) ≡ length taken
      count v s =
          let a = parted taken left e v.rev.main in
          let b = up_to-all t.current v.rev.main taken (omega arith) h.top in
          let c = up_to-none v.rev.main (suc t.current) left (omega arith) above in
          omega arith

      few : length taken ≤ most_events → t.current ≡ last_revision (u ∷ us)
      few l = sym (last-by u us t.current ascends
          (subst (AllByRecursion (λ v. fits (u ∷ us) v ≡ true → v.rev.main ≤ t.current)) e
          (all-both _ taken left (all-map (λ v g f. g) taken h.top) (all-map (λ v g f. no-fit v t.current g f) left over)))
          (subst (Has (fits (u ∷ us)) t.current) e
          (has-front (fits (u ∷ us)) t.current taken left (has-of (fits (u ∷ us)) t.current (λ v s. fits-by (u ∷ us) v (length taken) (count v s) l) taken h.here))))

      many : most_events < length taken → IsFirst u.rev.main taken t → t.current ≡ last_revision (u ∷ us)
      many l f = f.first ∙ sym (last-none u us (subst (AllByRecursion (λ v. fits (u ∷ us) v ≡ false)) e
          (all-both _ taken left (taken-fail taken h.top f.same) (all-map (λ v g. fails-by (u ∷ us) v g) left over))))
        where
          taken-fail : (vs : List Version) → AreUpTo t.current vs → AreFrom t.current vs → AllByRecursion (λ v. fits (u ∷ us) v ≡ false) vs
          taken-fail [] a b = tt
          taken-fail (v ∷ vs) a b = (fails-by (u ∷ us) v (let c = count v (let x = a.0 in let y = b.0 in omega arith) in omega arith), taken-fail vs a.1 b.1)

      by : IsFirst u.rev.main taken t ⊎ IsLater taken t → t.current ≡ last_revision (u ∷ us)
      by (inl f) = decided (nat_le (length taken) most_events) refl
        where
          decided : (b : Bool) → nat_le (length taken) most_events ≡ b → t.current ≡ last_revision (u ∷ us)
          decided true g = few (grind (arith, nat_tests))
          decided false g = many (grind (arith, nat_tests)) f
      by (inr f) = few f.few

  -- it is the one before, where the present one has no room
  at-whole : (taken left : List Version) (t : Tally) (v : Version) → taken ++ v ∷ left ≡ u ∷ us → IsTally u.rev.main taken t → v.rev.main ≡ t.current
      → AreFrom t.current left → most_events ≤ length taken → IsLater taken t → t.whole ≡ last_revision (u ∷ us)
  at-whole taken left t v e h same from full f = sym (last-by u us t.whole ascends
      (subst (AllByRecursion (λ w. fits (u ∷ us) w ≡ true → w.rev.main ≤ t.whole)) e
      (all-both _ taken (v ∷ left) (all-map (λ w g. ahead w g) taken f.between)
      ((λ g. no-fit v t.whole (over v (omega arith)) g), all-map (λ w l g. no-fit w t.whole (over w l) g) left from)))
      (subst (Has (fits (u ∷ us)) t.whole) e
      (has-front (fits (u ∷ us)) t.whole taken (v ∷ left) (has-of (fits (u ∷ us)) t.whole (λ w s. fits-by (u ∷ us) w (up_to t.whole taken) (count w s) f.room) taken f.holds))))
    where
      over : (w : Version) → t.current ≤ w.rev.main → most_events < up_to w.rev.main (u ∷ us)
      over w l =
          let a = parted taken (v ∷ left) e w.rev.main in
          let b = up_to-all t.current w.rev.main taken l h.top in
          let c = up_to-one w.rev.main v left (omega arith) in
          omega arith

      ahead : (w : Version) → (t.whole < w.rev.main → t.current ≤ w.rev.main) → fits (u ∷ us) w ≡ true → w.rev.main ≤ t.whole
      ahead w g k = decided (nat_le w.rev.main t.whole) refl
        where
          decided : (b : Bool) → nat_le w.rev.main t.whole ≡ b → w.rev.main ≤ t.whole
          decided true n = grind (arith, nat_tests)
          decided false n = no-fit w t.whole (over w (g (grind (arith, nat_tests)))) k

      count : (w : Version) → w.rev.main ≡ t.whole → up_to w.rev.main (u ∷ us) ≡ up_to t.whole taken
      count w s =
          let a = parted taken (v ∷ left) e w.rev.main in
          let b : up_to w.rev.main taken ≡ up_to t.whole taken = ap (λ n. up_to n taken) s in
          let before = f.before in
          let c = up_to-none w.rev.main t.current (v ∷ left) (omega arith) (omega arith, from) in
          omega arith

  -- the next one has no room
  cut : (taken left : List Version) (t : Tally) (v : Version) → taken ++ v ∷ left ≡ u ∷ us → IsTally u.rev.main taken t → t.current ≤ v.rev.main → AreFrom v.rev.main left
      → has_room t v.rev.main ≡ false → cut_at t v.rev.main ≡ last_revision (u ∷ us)
  cut taken left t v e h up from r = by (nat_lt t.events most_events) refl (v.rev.main == t.current) refl r
    where
      by : (a : Bool) → nat_lt t.events most_events ≡ a → (b : Bool) → (v.rev.main == t.current) ≡ b → (a || (b && t.whole == t.current)) ≡ false
          → cond b t.whole t.current ≡ last_revision (u ∷ us)
      by true f b g r = absurd (cc)
      by false f true g r = split h.state
        where
          same : v.rev.main ≡ t.current
          same = grind (arith, nat_tests)

          full : most_events ≤ length taken
          full = h.full (grind (arith, nat_tests))

          split : IsFirst u.rev.main taken t ⊎ IsLater taken t → t.whole ≡ last_revision (u ∷ us)
          split (inl s) = absurd (let w : t.whole ≡ t.current = s.whole in grind (arith, nat_tests))
          split (inr s) = at-whole taken left t v e h same (all-map (λ w l. omega arith) left from) full s
      by false f false g r = at-current taken (v ∷ left) t e h (behind, all-map (λ w l. let b : suc t.current ≤ v.rev.main = behind in omega arith) left from) (over v (omega arith), all-map (λ w l. over w l) left from)
        where
          behind : suc t.current ≤ v.rev.main
          behind = grind (arith, nat_tests)

          full : most_events ≤ length taken
          full = h.full (grind (arith, nat_tests))

          over : (w : Version) → v.rev.main ≤ w.rev.main → most_events < up_to w.rev.main (u ∷ us)
          over w l =
              let a = parted taken (v ∷ left) e w.rev.main in
              let b = up_to-all t.current w.rev.main taken (omega arith) h.top in
              let c = up_to-one w.rev.main v left l in
              let d : most_events ≤ length taken = full in
              omega arith

  goes : (taken left : List Version) (t : Tally) → taken ++ left ≡ u ∷ us → IsTally u.rev.main taken t → AreFrom t.current left → Ascends left
      → tallied t left ≡ last_revision (u ∷ us)
  goes taken [] t e h from up = at-current taken [] t e h tt tt
  goes taken (v ∷ left) t e h from up = by (goes (taken ++ v ∷ []) left (counted t v.rev.main)) (has_room t v.rev.main) refl
    where
      by : ((taken ++ v ∷ []) ++ left ≡ u ∷ us → IsTally u.rev.main (taken ++ v ∷ []) (counted t v.rev.main) → AreFrom v.rev.main left → Ascends left
          → tallied (counted t v.rev.main) left ≡ last_revision (u ∷ us))
          → (b : Bool) → has_room t v.rev.main ≡ b → cond b (tallied (counted t v.rev.main) left) (cut_at t v.rev.main) ≡ last_revision (u ∷ us)
      by later true r = later (append_assoc taken (v ∷ []) left ∙ e) (more u.rev.main taken t v h from.0 r) up.0 up.1
      by later false r = cut taken left t v e h from.0 up.0 r

-- ---- versions that rise

mains-from : (v : Version) (vs : List Version) → AllByRecursion (λ w. rev_lt v.rev w.rev ≡ true) vs → AreFrom v.rev.main vs
mains-from v [] h = tt
mains-from v (w ∷ vs) h = (rev_lt-main v.rev w.rev h.0, mains-from v vs h.1)

rising-ascends : (vs : List Version) → IsRising vs → Ascends vs
rising-ascends [] h = tt
rising-ascends (v ∷ vs) h = (mains-from v vs h.0, rising-ascends vs h.1)

one-counted : (u : Version) → IsTally u.rev.main (u ∷ []) (record { events = 1; whole = u.rev.main; current = u.rev.main })
one-counted u = record {
  top = (omega arith, tt);
  here = inl (refl, refl);
  some = λ l. refl;
  full = λ l. absurd (omega arith);
  state = inl (record { whole = refl; first = refl; same = (omega arith, tt) });
}

-- behind the first of them
pub tallied-last : (u : Version) (us : List Version) → IsRising (u ∷ us) → tallied (first_tally u.rev.main) us ≡ last_revision (u ∷ us)
tallied-last u us r = goes u us (rising-ascends (u ∷ us) r) (u ∷ []) us (first_tally u.rev.main) refl (one-counted u) (mains-from u us r.0) (rising-ascends us r.1)

-- ---- those that are counted, up to the last revision of the message

none-kept : (n : ℕ) (us : List Version) → AreFrom (suc n) us → filter (λ v. nat_le v.rev.main n) us ≡ []
none-kept n [] h = refl
none-kept n (u ∷ us) h =
    let past : nat_le u.rev.main n ≡ false = let a = h.0 in grind (arith, nat_tests) in
    ap (λ b. cond b (u ∷ filter (λ v. nat_le v.rev.main n) us) (filter (λ v. nat_le v.rev.main n) us)) past ∙ none-kept n us h.1

pub room-kept : (t : Tally) (us : List Version) → t.whole ≤ t.current → AreFrom t.current us → Ascends us
    → filter (λ v. nat_le v.rev.main (tallied t us)) (with_room t us) ≡ filter (λ v. nat_le v.rev.main (tallied t us)) us
room-kept t [] l from up = refl
room-kept t (u ∷ us) l from up = by (room-kept (counted t u.rev.main) us) (has_room t u.rev.main) refl
  where
    whole-up : (b : Bool) → cond b t.whole t.current ≤ u.rev.main
    whole-up true = let a = from.0 in omega arith
    whole-up false = from.0

    below : (a b : Bool) → nat_lt t.events most_events ≡ a → (u.rev.main == t.current) ≡ b → (a || (b && t.whole == t.current)) ≡ false → cond b t.whole t.current < u.rev.main
    below true b f g r = absurd (cc)
    below false true f g r = let a = from.0 in grind (arith, nat_tests)
    below false false f g r = let a = from.0 in grind (arith, nat_tests)

    by : (cond (u.rev.main == t.current) t.whole t.current ≤ u.rev.main → AreFrom u.rev.main us → Ascends us
        → filter (λ v. nat_le v.rev.main (tallied (counted t u.rev.main) us)) (with_room (counted t u.rev.main) us) ≡ filter (λ v. nat_le v.rev.main (tallied (counted t u.rev.main) us)) us)
        → (b : Bool) → has_room t u.rev.main ≡ b
        → filter (λ v. nat_le v.rev.main (cond b (tallied (counted t u.rev.main) us) (cut_at t u.rev.main))) (cond b (u ∷ with_room (counted t u.rev.main) us) [])
        ≡ filter (λ v. nat_le v.rev.main (cond b (tallied (counted t u.rev.main) us) (cut_at t u.rev.main))) (u ∷ us)
    by later true r = ap (λ ws. cond (nat_le u.rev.main (tallied (counted t u.rev.main) us)) (u ∷ ws) ws) (later (whole-up (u.rev.main == t.current)) up.0 up.1)
    by later false r =
        let past : cut_at t u.rev.main < u.rev.main = below (nat_lt t.events most_events) (u.rev.main == t.current) refl refl r in
        sym (none-kept (cut_at t u.rev.main) (u ∷ us) (omega arith, all-map (λ v g. omega arith) us up.0))

pub message-kept : (u : Version) (us : List Version) → IsRising (u ∷ us)
    → filter (λ v. nat_le v.rev.main (tallied (first_tally u.rev.main) us)) (u ∷ with_room (first_tally u.rev.main) us) ≡ filter (λ v. nat_le v.rev.main (last_revision (u ∷ us))) (u ∷ us)
message-kept u us r =
    ap (λ ws. cond (nat_le u.rev.main (tallied (first_tally u.rev.main) us)) (u ∷ ws) ws)
    (room-kept (first_tally u.rev.main) us (omega arith) (mains-from u us r.0) (rising-ascends us r.1))
    ∙ ap (λ n. filter (λ v. nat_le v.rev.main n) (u ∷ us)) (tallied-last u us r)

-- ---- it is no later than the versions are

pub last-within : (n : ℕ) (us : List Version) → AreUpTo n us → last_revision us ≤ n
last-within n [] h = omega arith
last-within n (u ∷ us) h = by (last_that (fits (u ∷ us)) (u ∷ us)) refl
  where
    by : (o : Option Version) → last_that (fits (u ∷ us)) (u ∷ us) ≡ o → unwrap_or (option_map (λ v. v.rev.main) o) u.rev.main ≤ n
    by None e = h.0
    by (Some v) e = (passed (fits (u ∷ us)) (λ w. w.rev.main ≤ n) (u ∷ us) v h e).1

pub last-from : (n main : ℕ) (us : List Version) → first_main_of us ≡ Some main → AreFrom n us → n ≤ last_revision us
last-from n main [] e h = absurd (cc)
last-from n main (u ∷ us) e h = by (last_that (fits (u ∷ us)) (u ∷ us)) refl
  where
    by : (o : Option Version) → last_that (fits (u ∷ us)) (u ∷ us) ≡ o → n ≤ unwrap_or (option_map (λ v. v.rev.main) o) u.rev.main
    by None e = h.0
    by (Some v) e = (passed (fits (u ∷ us)) (λ w. n ≤ w.rev.main) (u ∷ us) v h e).1

pub filter-within : (n : ℕ) (p : Version → Bool) (vs : List Version) → AreUpTo n vs → AreUpTo n (filter p vs)
filter-within n p [] h = tt
filter-within n p (v ∷ vs) h = by (p v) (filter-within n p vs h.1)
  where
    by : (b : Bool) → AreUpTo n (filter p vs) → AreUpTo n (cond b (v ∷ filter p vs) (filter p vs))
    by true g = (h.0, g)
    by false g = g

precede-filter : (v : Version) (p : Version → Bool) (vs : List Version) → AllByRecursion (λ w. rev_lt v.rev w.rev ≡ true) vs → AllByRecursion (λ w. rev_lt v.rev w.rev ≡ true) (filter p vs)
precede-filter v p [] h = tt
precede-filter v p (w ∷ ws) h = by (p w) (precede-filter v p ws h.1)
  where
    by : (b : Bool) → AllByRecursion (λ x. rev_lt v.rev x.rev ≡ true) (filter p ws) → AllByRecursion (λ x. rev_lt v.rev x.rev ≡ true) (cond b (w ∷ filter p ws) (filter p ws))
    by true g = (h.0, g)
    by false g = g

pub filter-rises : (p : Version → Bool) (vs : List Version) → IsRising vs → IsRising (filter p vs)
filter-rises p [] h = tt
filter-rises p (v ∷ vs) h = by (p v) (filter-rises p vs h.1)
  where
    by : (b : Bool) → IsRising (filter p vs) → IsRising (cond b (v ∷ filter p vs) (filter p vs))
    by true g = (precede-filter v p vs h.0, g)
    by false g = g

-- ---- versions that are lent

pub filter-lent : {X : Type 0} (see : X → Version) (p : Version → Bool) (xs : List X) → map see (filter (λ x. p (see x)) xs) ≡ filter p (map see xs)
filter-lent see p [] = refl
filter-lent see p (x ∷ xs) = by (p (see x)) (filter-lent see p xs)
  where
    by : (b : Bool) → map see (filter (λ y. p (see y)) xs) ≡ filter p (map see xs)
        → map see (cond b (x ∷ filter (λ y. p (see y)) xs) (filter (λ y. p (see y)) xs)) ≡ cond b (see x ∷ filter p (map see xs)) (filter p (map see xs))
    by true e = ap (λ vs. see x ∷ vs) e
    by false e = e

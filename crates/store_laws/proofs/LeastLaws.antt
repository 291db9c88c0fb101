-- Where nothing is left to take out, each version is needed, and so the list is the one least.
use Rattle.std.proofs.Common.{◌≡◌, ◌≤◌, ◌<◌, ◌⊎◌, ℕ, ◌-◌, ◌^◌, max, List, [], ◌∷◌, ◌++◌, map, filter, Bool, true, false, ◌&&◌, ◌||◌, cond}
use Rattle.std.proofs.Common.{Option, None, Some, option_and_then, refl, sym, ◌∙◌, ap, subst, inl, inr, arith}
use Rattle.std.specs.Prelude.{nat_lt, nat_le, ◌==◌}
use Rattle.std.proofs.lemmas.Bool.{le-leb, lt-ltb, eq-eqb}
use Rattle.std.specs.Option.{option_or}
use Rattle.std.specs.List.{AllByRecursion, list_any}
use Rattle.std.proofs.Math.Bool.{or-true}
use Rattle.kv_model.specs.declared.version.Version.{Version}
use Rattle.kv_model.specs.declared.version.Body.{Body}
use Rattle.kv_model.specs.declared.version.Body.TheVariants.{Put, Gone}
use Rattle.kv_model.specs.declared.call.Watched.{Watched}
use Rattle.kv_model.specs.Lists.{IsPart, IsIn, last_that}
use Rattle.kv_model.specs.Keys.{same_key}
use Rattle.kv_model.specs.History.{Mutation, KeyValue, now, dress, latest, value_at, key_value, shown, rev_le, rev_lt, end_of}
use Rattle.store_laws.specs.Sound.{IsHistory}
use Rattle.kv_model.specs.Watches.{WatchEvent, event_of_by, events_of_by, before_is_kept, matches, wants, plain_watch, previous_watch}
use Rattle.kv_model.specs.Questions.{Question, IsKept, Answered, answered, answered_by, IsGood, IsLeast}
use Rattle.kv_model.specs.History.{is_superseded, is_tombstone}
use Rattle.store_laws.specs.Trimming.{is_trimmed, IsSettled}
use Rattle.store_laws.proofs.PartLaws.{IsOnce, in_whole, part_length, part_same}
use Rattle.store_laws.proofs.Compacting.{latest-out}
use Rattle.store_laws.proofs.HistoryLaws.{same_key-eq}
use Rattle.store_laws.proofs.PlaceLaws.{rev_le-end}
use Rattle.store_laws.proofs.GoodLaws.{good-value_at}
use Rattle.store_laws.proofs.KeyLaws.{same-refl}
use Rattle.store_laws.proofs.RevOrder.{ranked, rev_lt-main, rev_lt-self}
use Rattle.store_laws.proofs.TrimLaws.{Precedes, AreRising, rising-dress, rising-part, rising-mid, Sits}
use Rattle.store_laws.proofs.TrimLaws.{before-mid, sit-part, superseded-mid, low, last_seen, replaces, replaces-of, replaces-as, Replaces}
use Rattle.store_laws.proofs.StepLaws.{settles}
use Rattle.store_laws.proofs.CompactLaws.{map-pointwise}

-- ---- elements

pub each-in : {X : Type 0} (P : X → Type 0) (xs : List X) (x : X) → AllByRecursion P xs → IsIn x xs → P x
each-in P [] x h i = absurd i
each-in P (y ∷ ys) x h (inl e) = subst P (sym e) h.0
each-in P (y ∷ ys) x h (inr i) = each-in P ys x h.1 i

-- an element, with what stands before it and after it
pub record Stand {X : Type 0} (x : X) (xs : List X) : Type 0 where
  pub before : List X
  pub after : List X
  pub is : xs ≡ before ++ x ∷ after

pub stand : {X : Type 0} (x : X) (xs : List X) → IsIn x xs → Stand x xs
stand x [] i = absurd i
stand x (y ∷ ys) (inl e) = record { before = []; after = ys; is = ap (λ z. z ∷ ys) (sym e) }
stand x (y ∷ ys) (inr i) = let s = stand x ys i in record { before = y ∷ s.before; after = s.after; is = ap (λ zs. y ∷ zs) s.is }

pub in-filter : {X : Type 0} (p : X → Bool) (xs : List X) (x : X) → p x ≡ true → IsIn x xs → IsIn x (filter p xs)
in-filter p [] x e i = i
in-filter p (y ∷ ys) x e (inl f) = subst (λ b. IsIn x (cond b (y ∷ filter p ys) (filter p ys))) (sym e ∙ ap p f) (inl f)
in-filter p (y ∷ ys) x e (inr i) = by (p y) (in-filter p ys x e i)
  where
    by : (b : Bool) → IsIn x (filter p ys) → IsIn x (cond b (y ∷ filter p ys) (filter p ys))
    by true j = inr j
    by false j = j

pub filter-in : {X : Type 0} (p : X → Bool) (xs : List X) (x : X) → IsIn x (filter p xs) → IsIn x xs
filter-in p [] x i = i
filter-in {X} p (y ∷ ys) x i = by (p y) (filter-in p ys x) i
  where
    by : (b : Bool) → (IsIn x (filter p ys) → IsIn x ys) → IsIn x (cond b (y ∷ filter p ys) (filter p ys)) → IsIn x (y ∷ ys)
    by true rest (inl e) = inl e
    by true rest (inr j) = inr (rest j)
    by false rest j = inr (rest j)

pub last-in : {X : Type 0} (p : X → Bool) (xs : List X) (x : X) → last_that p xs ≡ Some x → IsIn x xs × (p x ≡ true)
last-in p [] x e = cc
last-in {X} p (y ∷ ys) x e = by (last_that p ys) refl (p y) refl (last-in p ys x) e
  where
    by : (o : Option X) → last_that p ys ≡ o → (b : Bool) → p y ≡ b → (last_that p ys ≡ Some x → IsIn x ys × (p x ≡ true))
        → option_or o (cond b (Some y) None) ≡ Some x → IsIn x (y ∷ ys) × (p x ≡ true)
    by (Some z) d b f rest g = let r = rest (d ∙ g) in (inr r.0, r.1)
    by None d true f rest g = let same : y ≡ x = cc in (inl (sym same), sym (ap p same) ∙ f)
    by None d false f rest g = cc

-- ---- versions that rise stand once, one for a key and a main revision

pub once-rising : (vs : List Version) → AreRising vs → IsOnce vs
once-rising [] h = tt
once-rising (v ∷ vs) h = (
  (λ i. let e : true ≡ false = sym (each-in (Precedes v) vs v h.0 i).0 ∙ rev_lt-self v.rev in cc),
  once-rising vs h.1,
)

pub one_at : (vs : List Version) (u v : Version) → AreRising vs → IsIn u vs → IsIn v vs → u.key ≡ v.key → u.rev.main ≡ v.rev.main → u ≡ v
one_at [] u v h i j k m = absurd i
one_at (x ∷ xs) u v h (inl e) (inl f) k m = e ∙ sym f
one_at (x ∷ xs) u v h (inl e) (inr j) k m = absurd ((each-in (Precedes x) xs v h.0 j).1 (sym (ap (λ y. y.rev.main) e)
    ∙ m) (sym (ap (λ y. y.key) e) ∙ k))
one_at (x ∷ xs) u v h (inr i) (inl f) k m = absurd ((each-in (Precedes x) xs u h.0 i).1 (sym (ap (λ y. y.rev.main) f)
    ∙ sym m) (sym (ap (λ y. y.key) f) ∙ sym k))
one_at (x ∷ xs) u v h (inr i) (inr j) k m = one_at xs u v h.1 i j k m

-- ---- a put that is shown stands in the list

is_some_value : (v : Version) → is_tombstone v.body ≡ false → (kv : KeyValue) × (key_value v ≡ Some kv) × (kv.modified ≡ v.rev.main)
is_some_value v e = by v.body e
  where
    by : (b : Body) → is_tombstone b ≡ false → (kv : KeyValue) × (shown v.rev.main v.key b ≡ Some kv) × (kv.modified ≡ v.rev.main)
    by (Put create version lease value) e = (
      record {
        key = v.key;
        value = value;
        create = create;
        modified = v.rev.main;
        version = version;
        lease = lease;
      },
      refl,
      refl,
    )
    by Gone e = cc

shown-main : (main : ℕ) (k : List ℕ) (b : Body) (kv : KeyValue) → shown main k b ≡ Some kv → kv.modified ≡ main
shown-main main k (Put create version lease value) kv e = let same : record {
  key = k;
  value = value;
  create = create;
  modified = main;
  version = version;
  lease = lease;
} ≡ kv = cc
    in sym (ap (λ x. x.modified) same)
shown-main main k Gone kv e = cc

pub put-in : (us vs : List Version) (v : Version) (r : ℕ) → AreRising vs → IsPart us vs → IsIn v vs → is_tombstone v.body ≡ false
    → value_at us (end_of r) v.key ≡ key_value v → IsIn v us
unfolding value_at
put-in us vs v r h part i put e = by (latest us (end_of r) v.key) refl (e ∙ value.1)
  where
    value : (kv : KeyValue) × (key_value v ≡ Some kv) × (kv.modified ≡ v.rev.main)
    value = is_some_value v put

    test : Version → Bool
    test u = same_key u.key v.key && rev_le u.rev (end_of r)

    keyed : (a b : Bool) (u : Version) → same_key u.key v.key ≡ a → (a && b) ≡ true → u.key ≡ v.key
    keyed true b u d f = same_key-eq u.key v.key d
    keyed false b u d f = cc

    by : (o : Option Version) → latest us (end_of r) v.key ≡ o → option_and_then key_value o ≡ Some value.0 → IsIn v us
    by None d f = cc
    by (Some u) d f =
        let found = last-in test us u d in
        let key : u.key ≡ v.key = keyed (same_key u.key v.key) (rev_le u.rev (end_of r)) u refl found.1 in
        let main : u.rev.main ≡ v.rev.main = sym (shown-main u.rev.main u.key u.body value.0 f) ∙ value.2 in
        subst (λ w. IsIn w us) (one_at vs u v h (in_whole part u found.0) i key main) found.0

-- ---- a version that a watch is told of stands in the list

pub told_versions : (has_before : ℕ → ℕ → Bool) (vs : List Version) (c : ℕ) (w : Watched) (us : List Version)
    → map (λ e. e.version) (map (event_of_by has_before vs c w) us) ≡ us
told_versions has_before vs c w [] = refl
told_versions has_before vs c w (u ∷ us) = ap (λ xs. u ∷ xs) (told_versions has_before vs c w us)

unfoldable pub versions_told : Answered → List Version
versions_told (Answered.range r) = []
versions_told (Answered.watch es) = map (λ e. e.version) es

watch_test : Version → Version → Bool
watch_test v u = u.rev.main == v.rev.main && matches (plain_watch v.key) u

told-as : (has_before : ℕ → ℕ → Bool) (vs : List Version) (c n : ℕ) (v : Version)
    → versions_told (answered_by has_before vs c n (Question.watch (plain_watch v.key) v.rev.main)) ≡ filter (watch_test v) vs
unfolding versions_told watch_test
told-as has_before vs c n v = told_versions has_before vs c (plain_watch v.key) (filter (λ u. u.rev.main == v.rev.main
    && matches (plain_watch v.key) u) vs)

tells : (v : Version) → watch_test v v ≡ true
unfolding watch_test
tells v = by v.body
  where
    by : (b : Body) → ((v.rev.main == v.rev.main) && (same_key v.key v.key && wants (plain_watch v.key) b)) ≡ true
    by (Put create version lease value) = λ i. eq-eqb v.rev.main v.rev.main refl i && (same-refl v.key i && true)
    by Gone = λ i. eq-eqb v.rev.main v.rev.main refl i && (same-refl v.key i && true)

pub told-in : (has_before : ℕ → ℕ → Bool) (us vs : List Version) (c n : ℕ) (v : Version) → IsIn v vs
    → answered_by has_before us c n (Question.watch (plain_watch v.key) v.rev.main)
    ≡ answered_by has_before vs c n (Question.watch (plain_watch v.key) v.rev.main)
    → IsIn v us
told-in has_before us vs c n v i e =
    let same : filter (watch_test v) us ≡ filter (watch_test v) vs = sym (told-as has_before us c n v) ∙ ap versions_told e
    ∙ told-as has_before vs c n v in
    filter-in (watch_test v) us v (subst (IsIn v) (sym same) (in-filter (watch_test v) vs v (tells v) i))

-- a put that nothing replaces is what the key shows
pub last-shown : (r : ℕ) (xs : List Version) (v : Version) (ys : List Version)
    → AreRising (xs ++ v ∷ ys) → v.rev.sub < 2 ^ 64 → v.rev.main ≤ r → is_superseded (xs ++ v ∷ ys) r v ≡ false
    → value_at (xs ++ v ∷ ys) (end_of r) v.key ≡ key_value v
unfolding value_at
last-shown r xs v ys h number l e =
    ap (option_and_then key_value) (latest-out xs v ys (end_of r) v.key true (λ i. same-refl v.key i && rev_le-end v.rev r l number i)
    ∙ ap (λ o. option_or (option_or o (Some v)) (latest xs (end_of r) v.key)) (last_seen r v ys (rising-mid xs v ys h).1
    (sym (superseded-mid xs v ys r (before-mid xs v ys h)) ∙ e)))

-- ---- a put that a watch tells of as a previous value stands in the list

unfoldable events_told : Answered → List WatchEvent
events_told (Answered.range r) = []
events_told (Answered.watch es) = es

-- lists that tell alike of a revision tell alike of each version of it
pub event-alike : (has_before : ℕ → ℕ → Bool) (us vs : List Version) (c r : ℕ) (w : Watched) (u : Version)
    → (u.rev.main == r && matches w u) ≡ true → IsIn u vs
    → events_of_by has_before us c r w ≡ events_of_by has_before vs c r w
    → event_of_by has_before us c w u ≡ event_of_by has_before vs c w u
event-alike has_before us vs c r w u t i e =
    let test : Version → Bool = λ v. v.rev.main == r && matches w v in
    let same : filter test us ≡ filter test vs = sym (told_versions has_before us c w (filter test us))
    ∙ ap (map (λ (x : WatchEvent). x.version)) e ∙ told_versions has_before vs c w (filter test vs) in
    let each : map (event_of_by has_before us c w) (filter test vs) ≡ map (event_of_by has_before vs c w) (filter test vs)
    = ap (map (event_of_by has_before us c w)) (sym same) ∙ e in
    each-in (λ v. event_of_by has_before us c w v ≡ event_of_by has_before vs c w v) (filter test vs) u
    (map-pointwise (event_of_by has_before us c w) (event_of_by has_before vs c w) (filter test vs) each) (in-filter test vs u t i)

-- and so of what stood before it, where the test has that told
told-before : (has_before : ℕ → ℕ → Bool) (us vs : List Version) (c n : ℕ) (u : Version) → has_before c u.rev.main ≡ true → IsIn u vs
    → answered_by has_before us c n (Question.watch (previous_watch u.key) u.rev.main)
    ≡ answered_by has_before vs c n (Question.watch (previous_watch u.key) u.rev.main)
    → value_at us (end_of (u.rev.main - 1)) u.key ≡ value_at vs (end_of (u.rev.main - 1)) u.key
unfolding events_told
told-before has_before us vs c n u h i e =
    known (has_before c u.rev.main) h
    (ap (λ (x : WatchEvent). x.before) (event-alike has_before us vs c u.rev.main (previous_watch u.key) u (tested u.body) i
    (ap events_told e)))
  where
    tested : (b : Body) → ((u.rev.main == u.rev.main) && (same_key u.key u.key && wants (previous_watch u.key) b)) ≡ true
    tested (Put create version lease value) = λ j. eq-eqb u.rev.main u.rev.main refl j && (same-refl u.key j && true)
    tested Gone = λ j. eq-eqb u.rev.main u.rev.main refl j && (same-refl u.key j && true)

    known : {a b : Option KeyValue} (t : Bool) → t ≡ true → cond (t && true) a None ≡ cond (t && true) b None → a ≡ b
    known true f g = g
    known false f g = cc

-- the next version of a key, at a revision
record Next (vs : List Version) (r : ℕ) (v : Version) : Type 0 where
  next : Version
  here : IsIn next vs
  key : next.key ≡ v.key
  later : rev_lt v.rev next.rev ≡ true
  main : next.rev.main ≡ r

next-of : (vs : List Version) (r : ℕ) (v : Version) → list_any (replaces r v) vs ≡ true → list_any (replaces (r - 1) v) vs ≡ false
    → Next vs r v
next-of [] r v e f = cc
next-of (u ∷ us) r v e f = by (replaces r v u) refl (replaces (r - 1) v u) refl e f (next-of us r v)
  where
    main : Replaces r v u → replaces (r - 1) v u ≡ false → u.rev.main ≡ r
    main p g = elim (ranked u.rev.main (r - 1)) [
      | inl a ↦ absurd (let x : true ≡ false = sym (replaces-as (r - 1) v u (record {
        key = p.key;
        later = p.later;
        by = a;
      })) ∙ g in cc)
      | inr a ↦ (let l : u.rev.main ≤ r = p.by in omega arith)
    ]

    by : (a : Bool) → replaces r v u ≡ a → (b : Bool) → replaces (r - 1) v u ≡ b → (a || list_any (replaces r v) us) ≡ true
        → (b || list_any (replaces (r - 1) v) us) ≡ false
        → (list_any (replaces r v) us ≡ true → list_any (replaces (r - 1) v) us ≡ false → Next us r v) → Next (u ∷ us) r v
    by a d true g e f rest = cc
    by true d false g e f rest = let p = replaces-of r v u d in
        record { next = u; here = inl refl; key = p.key; later = p.later; main = main p g }
    by false d false g e f rest = let n = rest e f in
        record { next = n.next; here = inr n.here; key = n.key; later = n.later; main = n.main }

-- where the next version of a put's key is told of with what stood before it, the put stands in the list
pub previous-in : (has_before : ℕ → ℕ → Bool) (us vs whole : List Version) (c n r : ℕ) (v : Version) → AreRising whole → IsPart us whole
    → IsPart vs whole → IsIn v vs → is_tombstone v.body ≡ false → v.rev.sub < 2 ^ 64 → is_superseded vs r v ≡ true
    → is_superseded vs (r - 1) v ≡ false → has_before c r ≡ true
    → answered_by has_before us c n (Question.watch (previous_watch v.key) r)
    ≡ answered_by has_before vs c n (Question.watch (previous_watch v.key) r)
    → IsIn v us
unfolding is_superseded
previous-in has_before us vs whole c n r v h part kept i put number replaced alone tells_it e =
    put-in us whole v (r - 1) h part (in_whole kept v i) put (told ∙ shown)
  where
    next : Next vs r v
    next = next-of vs r v replaced alone

    rising : AreRising vs
    rising = rising-part kept h

    below : v.rev.main ≤ r - 1
    below = elim (ranked r v.rev.main) [
      | inl a ↦ absurd (let l : v.rev.main ≤ next.next.rev.main = rev_lt-main v.rev next.next.rev next.later in
          let m : next.next.rev.main ≡ r = next.main in
          let same : next.next ≡ v = one_at vs next.next v rising next.here i next.key (omega arith) in
          let x : true ≡ false = sym next.later ∙ ap (λ (w : Version). rev_lt v.rev w.rev) same ∙ rev_lt-self v.rev in cc)
      | inr a ↦ omega arith
    ]

    shown : value_at vs (end_of (r - 1)) v.key ≡ key_value v
    shown = let s = stand v vs i in
        subst (λ ws. value_at ws (end_of (r - 1)) v.key ≡ key_value v) (sym s.is)
        (last-shown (r - 1) s.before v s.after (subst AreRising s.is rising) number below
        (subst (λ ws. is_superseded ws (r - 1) v ≡ false) s.is alone))

    told : value_at us (end_of (r - 1)) v.key ≡ value_at vs (end_of (r - 1)) v.key
    told = subst (λ m. value_at us (end_of (m - 1)) v.key ≡ value_at vs (end_of (m - 1)) v.key) next.main
        (subst (λ k. value_at us (end_of (next.next.rev.main - 1)) k ≡ value_at vs (end_of (next.next.rev.main - 1)) k) next.key
        (told-before has_before us vs c n next.next (ap (has_before c) next.main ∙ tells_it) next.here
        (subst (λ k. answered_by has_before us c n (Question.watch (previous_watch k) next.next.rev.main)
        ≡ answered_by has_before vs c n (Question.watch (previous_watch k) next.next.rev.main)) (sym next.key)
        (subst (λ m. answered_by has_before us c n (Question.watch (previous_watch v.key) m)
        ≡ answered_by has_before vs c n (Question.watch (previous_watch v.key) m)) (sym next.main) e))))

-- ---- what is left is needed

abbrev pub IsLeft : List Version → ℕ → Version → Type 0
IsLeft vs c v = (nat_le v.rev.main c && is_trimmed vs c v) ≡ false

not-first : (a b : Bool) → (true && (a || b)) ≡ false → a ≡ false
not-first true b e = cc
not-first false b e = refl

-- nothing replaces a version at its own main revision
pub not-itself : (vs : List Version) (v : Version) → AreRising vs → IsIn v vs → is_superseded vs v.rev.main v ≡ false
not-itself vs v h i = by (is_superseded vs v.rev.main v) refl
  where
    s : Stand v vs
    s = stand v vs i

    by : (b : Bool) → is_superseded vs v.rev.main v ≡ b → b ≡ false
    by true e =
        let up : AreRising (s.before ++ v ∷ s.after) = subst AreRising s.is h in
        let below : v.rev.main < v.rev.main = low v.rev.main v s.after (rising-mid s.before v s.after up).1
        (sym (superseded-mid s.before v s.after v.rev.main (before-mid s.before v s.after up))
        ∙ subst (λ us. is_superseded us v.rev.main v ≡ true) s.is e) in
        absurd (omega arith)
    by false e = refl

-- the last version of a key below the compaction, where one stands at it
pub record IsPrevious (vs : List Version) (c : ℕ) (v : Version) : Type 0 where
  pub below : v.rev.main < c
  pub replaced : is_superseded vs c v ≡ true
  pub alone : is_superseded vs (c - 1) v ≡ false

-- a version that is left is not replaced at the revision that a Range of it asks for, or it is a previous value
pub last-or-previous : (vs : List Version) (c : ℕ) (v : Version) → AreRising vs → IsIn v vs → IsLeft vs c v
    → (is_superseded vs (max v.rev.main c) v ≡ false) ⊎ IsPrevious vs c v
last-or-previous vs c v h i left = by (ranked v.rev.main c)
  where
    known : v.rev.main ≤ c → (b : Bool) → is_superseded vs c v ≡ b
        → (is_superseded vs (max v.rev.main c) v ≡ false) ⊎ IsPrevious vs c v
    known a true e = inr (record {
      below = elim (ranked c v.rev.main) [
        | inl b ↦ (let same : v.rev.main ≡ c = omega arith in
            let d : false ≡ true = sym (subst (λ r. is_superseded vs r v ≡ false) same (not-itself vs v h i)) ∙ e in cc)
        | inr b ↦ b
      ];
      replaced = e;
      alone = not-first (is_superseded vs (c - 1) v) (is_tombstone v.body && nat_lt v.rev.main c) (ap (λ b. b
          && is_trimmed vs c v) (sym (le-leb v.rev.main c a)) ∙ left);
    })
    known a false e = let same : max v.rev.main c ≡ c = omega arith in
        inl (subst (λ r. is_superseded vs r v ≡ false) (sym same) e)

    by : (v.rev.main ≤ c) ⊎ (c < v.rev.main) → (is_superseded vs (max v.rev.main c) v ≡ false) ⊎ IsPrevious vs c v
    by (inl a) = known a (is_superseded vs c v) refl
    by (inr a) = let same : max v.rev.main c ≡ v.rev.main = omega arith in
        inl (subst (λ r. is_superseded vs r v ≡ false) (sym same) (not-itself vs v h i))

-- a tombstone that is left is not below the compaction
pub tombstone-left : (vs : List Version) (c : ℕ) (v : Version) → is_tombstone v.body ≡ true → IsLeft vs c v → c ≤ v.rev.main
tombstone-left vs c v gone left = by (ranked c v.rev.main)
  where
    by : (c ≤ v.rev.main) ⊎ (v.rev.main < c) → c ≤ v.rev.main
    by (inl a) = a
    by (inr a) = let e : true ≡ false = sym (or-true (is_superseded vs (c - 1) v)) ∙ (λ i. sym (le-leb v.rev.main c (omega arith)) i
        && (is_superseded vs (c - 1) v || (sym gone i && sym (lt-ltb v.rev.main c a) i))) ∙ left in cc

-- the revisions that a version is needed for
module _ (ms : List Mutation) (c : ℕ) (h : IsHistory ms) (f : c ≤ now ms) (vs : List Version) (g : IsGood vs ms c) (v : Version)
    (i : IsIn v vs) (left : IsLeft vs c v) where
  pub sits : Sits (now ms) v.rev v.key
  sits = each-in (λ u. Sits (now ms) u.rev u.key) vs v (sit-part vs ms g.part h) i

  pub put-kept : IsKept c (now ms) (max v.rev.main c)
  put-kept = let a : 1 < v.rev.main = sits.above in let b : v.rev.main ≤ now ms = sits.by in record {
    first = omega arith;
    kept = omega arith;
    past = omega arith;
  }

  pub rising : AreRising vs
  rising = rising-part g.part (rising-dress ms h)

  pub put-shown : is_superseded vs (max v.rev.main c) v ≡ false → value_at (dress ms) (end_of (max v.rev.main c)) v.key ≡ key_value v
  put-shown alone =
      let s = stand v vs i in
      sym (good-value_at vs ms c (max v.rev.main c) v.key g h put-kept)
      ∙ subst (λ us. value_at us (end_of (max v.rev.main c)) v.key ≡ key_value v) (sym s.is)
      (last-shown (max v.rev.main c) s.before v s.after (subst AreRising s.is rising) sits.number (omega arith)
      (subst (λ us. is_superseded us (max v.rev.main c) v ≡ false) s.is alone))

  pub previous-kept : IsPrevious vs c v → IsKept c (now ms) c
  previous-kept p = let a : 1 < v.rev.main = sits.above in let b : v.rev.main < c = p.below in record {
    first = omega arith;
    kept = omega arith;
    past = f;
  }

  pub tombstone-kept : is_tombstone v.body ≡ true → IsKept c (now ms) v.rev.main
  tombstone-kept gone = let a : 1 < v.rev.main = sits.above in let b : v.rev.main ≤ now ms = sits.by in
      record { first = omega arith; kept = tombstone-left vs c v gone left; past = omega arith }

  -- a part that tells of the compaction as the list does has the previous value
  pub previous-stays : (us : List Version) → IsPart us (dress ms) → is_tombstone v.body ≡ false → IsPrevious vs c v
      → answered us c (now ms) (Question.watch (previous_watch v.key) c) ≡ answered (dress ms) c (now ms) (Question.watch (previous_watch v.key) c)
      → IsIn v us
  previous-stays us part put p e = previous-in before_is_kept us vs (dress ms) c (now ms) c v (rising-dress ms h) part g.part i put
      sits.number p.replaced p.alone (le-leb c c (omega arith))
      (e ∙ sym (g.answers (Question.watch (previous_watch v.key) c) (previous-kept p)))

  -- every good list has it
  pub stays-in : (us : List Version) → IsGood us ms c → IsIn v us
  stays-in us gu = by (is_tombstone v.body) refl
    where
      by : (b : Bool) → is_tombstone v.body ≡ b → IsIn v us
      by false e = elim (last-or-previous vs c v rising i left) [
        | inl alone ↦ put-in us (dress ms) v (max v.rev.main c) (rising-dress ms h) gu.part (in_whole g.part v i) e
            (good-value_at us ms c (max v.rev.main c) v.key gu h put-kept ∙ put-shown alone)
        | inr p ↦ previous-stays us gu.part e p (gu.answers (Question.watch (previous_watch v.key) c) (previous-kept p))
      ]
      by true e = told-in before_is_kept us vs c (now ms) v i (gu.answers (Question.watch (plain_watch v.key) v.rev.main) (tombstone-kept e)
          ∙ sym (g.answers (Question.watch (plain_watch v.key) v.rev.main) (tombstone-kept e)))

-- ---- the least list

pub settled-least : (ms : List Mutation) (c : ℕ) (vs : List Version) → IsHistory ms → c ≤ now ms → IsGood vs ms c → IsSettled vs c
    → IsLeast vs ms c
settled-least ms c vs h f g left = record {
  good = g;
  least = λ us gu. part_length gu.part g.part (once-rising (dress ms) (rising-dress ms h)) (λ v i. stays-in ms c h f vs g v i
      (each-in (IsLeft vs c) vs v left i) us gu);
}

-- a least list is any good one with nothing left to take out
pub least-settled : (ms : List Mutation) (c : ℕ) (us vs : List Version) → IsHistory ms → c ≤ now ms → IsLeast us ms c → IsGood vs ms c
    → IsSettled vs c → us ≡ vs
least-settled ms c us vs h f l g left =
    part_same l.good.part g.part (once-rising (dress ms) (rising-dress ms h)) (λ v i. stays-in ms c h f vs g v i (each-in (IsLeft vs c) vs v
    left i) us l.good) (l.least vs g)

pub least-one : (ms : List Mutation) (c : ℕ) (us vs : List Version) → IsHistory ms → c ≤ now ms → IsLeast us ms c → IsLeast vs ms c → us
    ≡ vs
least-one ms c us vs h f l k =
    let s = settles ms c us h l.good in
    least-settled ms c us s.settled h f l s.good s.is_settled ∙ sym (least-settled ms c vs s.settled h f k s.good s.is_settled)

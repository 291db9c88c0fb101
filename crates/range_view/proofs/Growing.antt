-- How the versions that are kept grow by those of a revision, and lose them again.
use Rattle.std.proofs.Common.{◌≡◌, ◌≤◌, ◌<◌, ◌+◌, ◌-◌, ◌==◌, ℕ, List, [], ◌∷◌, ◌++◌, take, drop, true, false, ◌&&◌, cond, nat_lt}
use Rattle.std.proofs.Common.{length, sym, ◌∙◌, ap, subst, arith, append_assoc, eq-eqb, None, Some}
use Rattle.std.proofs.lemmas.Bool.Decides.{nat_tests}
use Rattle.std.specs.List.{AllByRecursion}
use Rattle.std.proofs.Math.ListN.{get_or}
use Rattle.std.proofs.lemmas.List.{append-nil, take_more, take-append-drop}
use Rattle.std.proofs.lemmas.Bool.{and_parts, eqb-true, ltb-true}
use Rattle.kv_model.specs.declared.version.Rev.{Rev}
use Rattle.kv_model.specs.declared.version.Version.{Version}
use Rattle.kv_model.specs.History.{rev_lt}
use Rattle.store_laws.specs.Snapshots.{last_main_or}
use Rattle.store_laws.specs.Trimming.{oldest_place, trimmed}
use Rattle.store_laws.specs.Stands.{first_main_of}
use Rattle.store_laws.proofs.HistoryLaws.{AllByRecursion-split}
use Rattle.store_laws.proofs.PlaceLaws.{each-map, each-append, each-filter}
use Rattle.store_laws.proofs.RevOrder.{rev_lt-mains, rev_lt-subs, rev_lt-trans}
use Rattle.store_laws.proofs.Rising.{rising-filter, rising-parts}
use Rattle.version_table.specs.Rising.{IsBehind, IsRising, rev_of, retracted}
use Rattle.version_table.proofs.Changes.{retracted-append}
use Rattle.version_table.proofs.Retracting.{below-not_of}
use Rattle.trim_core.proofs.Stepping.{trimmed-keeps}
use Rattle.key_index.specs.Index.{Index}
use Rattle.key_index.specs.Agrees.{Agrees}
use Rattle.key_index.proofs.Agrees.{agrees-nothing}
use Rattle.range_view.specs.Stored.{AreTables, Stored, IsUpTo, IsBelow, AreOf, IsStored, goes_on, is_next, appended, retracted_to}

-- ---- numbers

never-present : (r : ℕ) → (r + 1 == r && nat_lt 1 (r + 1)) ≡ false
never-present r = let other : (r + 1 == r) ≡ false = grind (arith, nat_tests) in ap (λ b. b && nat_lt 1 (r + 1)) other

always-present : (r : ℕ) → 1 ≤ r → (r + 1 == r + 1 && nat_lt 1 (r + 1)) ≡ true
always-present r h =
    let same : (r + 1 == r + 1) ≡ true = grind (arith, nat_tests) in
    let more : nat_lt 1 (r + 1) ≡ true = grind (arith, nat_tests) in
    ap (λ b. b && nat_lt 1 (r + 1)) same ∙ more

-- ---- main revisions

pub upto-below : (main : ℕ) (vs us : List Version) → IsBelow main vs → AreOf main us → IsUpTo main (vs ++ us)
upto-below main vs us h g =
    each-append (λ (v : Version). v.rev.main ≤ main) vs us
    (each-map (λ (v : Version). v.rev.main < main) (λ v. v.rev.main ≤ main) (λ v less. omega arith) vs h)
    (each-map (λ (v : Version). (v.rev.main == main) ≡ true) (λ v. v.rev.main ≤ main)
    (λ v same. let e = eqb-true v.rev.main main same in omega arith) us g)

pub below-upto : (main : ℕ) (vs : List Version) → IsBelow main vs → IsUpTo (main - 1) vs
below-upto main vs h = each-map (λ (v : Version). v.rev.main < main) (λ v. v.rev.main ≤ main - 1) (λ v less. omega arith) vs h

pub below-next : (now : ℕ) (vs : List Version) → IsUpTo now vs → IsBelow (now + 1) vs
below-next now vs h = each-map (λ (v : Version). v.rev.main ≤ now) (λ v. v.rev.main < now + 1) (λ v less. omega arith) vs h

-- ---- growth at the end

step : (p q : Rev) → (q.main == p.main && nat_lt p.sub q.sub) ≡ true → (rev_lt p q ≡ true) × (p.main ≡ q.main)
step p q h =
    let parts = and_parts (q.main == p.main) (nat_lt p.sub q.sub) h in
    let same : p.main ≡ q.main = sym (eqb-true q.main p.main parts.0) in
    let less : p.sub < q.sub = ltb-true p.sub q.sub parts.1 in
    (rev_lt-subs p q same less, same)

goes_on-above : (p : Rev) (vs : List Version) → goes_on p vs ≡ true → AllByRecursion (λ w. rev_lt p w.rev ≡ true) vs
goes_on-above p [] h = tt
goes_on-above p (v ∷ vs) h =
    let parts = and_parts (v.rev.main == p.main && nat_lt p.sub v.rev.sub) (goes_on v.rev vs) h in
    let first = step p v.rev parts.0 in
    let behind = goes_on-above v.rev vs parts.1 in
    (first.0, each-map (λ w. rev_lt v.rev w.rev ≡ true) (λ w. rev_lt p w.rev ≡ true) (λ w. rev_lt-trans p v.rev w.rev first.0) vs behind)

goes_on-rising : (p : Rev) (vs : List Version) → goes_on p vs ≡ true → IsRising vs
goes_on-rising p [] h = tt
goes_on-rising p (v ∷ vs) h = let parts = and_parts (v.rev.main == p.main && nat_lt p.sub v.rev.sub) (goes_on v.rev vs) h in (goes_on-above v.rev vs parts.1, goes_on-rising v.rev vs parts.1)

goes_on-of : (main : ℕ) (p : Rev) (vs : List Version) → p.main ≡ main → goes_on p vs ≡ true → AreOf main vs
goes_on-of main p [] e h = tt
goes_on-of main p (v ∷ vs) e h =
    let parts = and_parts (v.rev.main == p.main && nat_lt p.sub v.rev.sub) (goes_on v.rev vs) h in
    let same : v.rev.main ≡ main = sym (step p v.rev parts.0).1 ∙ e in
    (eq-eqb v.rev.main main same, goes_on-of main v.rev vs same parts.1)

-- the versions of the next revision are all of it
pub next-of : (now : ℕ) (vs : List Version) → is_next now vs ≡ true → AreOf (now + 1) vs
next-of now [] h = tt
next-of now (v ∷ vs) h = let parts = and_parts (v.rev.main == now + 1) (goes_on v.rev vs) h in (parts.0, goes_on-of (now + 1) v.rev vs (eqb-true v.rev.main (now + 1) parts.0) parts.1)

next-rising : (now : ℕ) (vs : List Version) → is_next now vs ≡ true → IsRising vs
next-rising now [] h = tt
next-rising now (v ∷ vs) h = let parts = and_parts (v.rev.main == now + 1) (goes_on v.rev vs) h in (goes_on-above v.rev vs parts.1, goes_on-rising v.rev vs parts.1)

older-before : (now : ℕ) (v w : Version) → v.rev.main ≤ now → (w.rev.main == now + 1) ≡ true → rev_lt v.rev w.rev ≡ true
older-before now v w h g =
    let e = eqb-true w.rev.main (now + 1) g in
    let less : v.rev.main < w.rev.main = omega arith in
    rev_lt-mains v.rev w.rev less

-- and stand behind all that are kept
pub rising-next : (now : ℕ) (vs us : List Version) → IsRising vs → IsUpTo now vs → is_next now us ≡ true → IsRising (vs ++ us)
rising-next now [] us r u h = next-rising now us h
rising-next now (v ∷ vs) us r u h = (
  each-append (λ w. rev_lt v.rev w.rev ≡ true) vs us r.0
      (each-map (λ w. (w.rev.main == now + 1) ≡ true) (λ w. rev_lt v.rev w.rev
      ≡ true) (λ w. older-before now v w u.0) us (next-of now us h)),
  rising-next now vs us r.1 u.1 h,
)

-- the main revision that comes last is the next one
of-last : (main r : ℕ) (v : Version) (vs : List Version) → AreOf main (v ∷ vs) → last_main_or r (v ∷ vs) ≡ main
of-last main r v [] h = eqb-true v.rev.main main h.0
of-last main r v (w ∷ ws) h = of-last main v.rev.main w ws h.1

pub next-revision : (now : ℕ) (v : Version) (vs : List Version) → is_next now (v ∷ vs) ≡ true → last_main_or now (v ∷ vs) ≡ now + 1
next-revision now v vs h = of-last (now + 1) now v vs (next-of now (v ∷ vs) h)

pub next-main : (now : ℕ) (vs : List Version) (m : ℕ) → first_main_of vs ≡ Some m → is_next now vs ≡ true → (m ≡ now + 1) × (last_main_or now vs ≡ m)
next-main now [] m e h = cc
next-main now (v ∷ vs) m e h =
    let parts = and_parts (v.rev.main == now + 1) (goes_on v.rev vs) h in
    let same : v.rev.main ≡ m = cc in
    let next : v.rev.main ≡ now + 1 = eqb-true v.rev.main (now + 1) parts.0 in
    (sym same ∙ next, next-revision now v vs h ∙ sym next ∙ same)

-- ---- what was appended last is taken back

pub retracted_to-appended : (s : Stored) (vs : List Version) → IsStored s → is_next s.revision vs ≡ true → retracted_to (s.revision + 1) (appended s vs) ≡ s
retracted_to-appended s [] st h = ap (λ b. cond b (record s { versions = retracted (s.revision + 1) (s.versions ++ []); revision = s.revision + 1 - 1 }) (appended s [])) never ∙ same
  where
    never : (s.revision + 1 == s.revision && nat_lt 1 (s.revision + 1)) ≡ false
    never = never-present s.revision

    same : appended s [] ≡ s
    same = λ i. record s { versions = append-nil s.versions i }
retracted_to-appended s (v ∷ vs) st h = ap (λ b. cond b (record s { versions = retracted (s.revision + 1) (s.versions ++ v ∷ vs); revision = s.revision + 1 - 1 }) (appended s (v ∷ vs))) always ∙ same
  where
    revised : last_main_or s.revision (v ∷ vs) ≡ s.revision + 1
    revised = next-revision s.revision v vs h

    always : (s.revision + 1 == last_main_or s.revision (v ∷ vs) && nat_lt 1 (s.revision + 1)) ≡ true
    always = ap (λ n. s.revision + 1 == n && nat_lt 1 (s.revision + 1)) revised ∙ always-present s.revision st.opened

    kept : retracted (s.revision + 1) (s.versions ++ v ∷ vs) ≡ s.versions
    kept = retracted-append (s.revision + 1) s.versions (v ∷ vs) (below-not_of (s.revision + 1) s.versions (below-next s.revision s.versions st.upto)) (next-of s.revision (v ∷ vs) h)

    number : s.revision + 1 - 1 ≡ s.revision
    number = omega arith

    same : ◌≡◌ {A = Stored} (record s { versions = retracted (s.revision + 1) (s.versions ++ v ∷ vs); revision = s.revision + 1 - 1 }) s
    same = λ i. record s { versions = kept i; revision = number i }

-- ---- one version after another

-- those before an index, the one at it, and those behind it
pub split_at : {X : Type 0} (us : List X) (i : ℕ) (v : X) → i < length us → v ≡ get_or us i v → take i us ++ (v ∷ drop (i + 1) us) ≡ us
split_at us i v less is =
    sym (append_assoc (take i us) (v ∷ []) (drop (i + 1) us))
    ∙ ap (λ xs. (take i us ++ xs ∷ []) ++ drop (i + 1) us) is
    ∙ ap (λ xs. xs ++ drop (i + 1) us) (sym (take_more us i v less))
    ∙ take-append-drop (i + 1) us

-- the next one stands behind what was kept and what was added before it
pub ready : (vs us done rest : List Version) (v : Version) → IsRising (vs ++ us) → done ++ (v ∷ rest) ≡ us → IsBehind v.rev (vs ++ done)
ready vs us done rest v r e =
    (rising-parts rev_of (vs ++ done) v rest (subst IsRising (ap (λ ws. vs ++ ws) (sym e) ∙ sym (append_assoc vs done (v ∷ rest))) r)).0

pub front-of : (main : ℕ) (us done rest : List Version) → AreOf main us → done ++ rest ≡ us → AreOf main done
front-of main us done rest h e =
    (AllByRecursion-split (λ (v : Version). (v.rev.main == main) ≡ true) done rest (subst (AreOf main) (sym e) h)).0

-- ---- a revision more

-- what the versions of the next revision are to those that are kept
pub record Grows (main : ℕ) (vs us : List Version) : Type 0 where
  pub rising : IsRising (vs ++ us)
  pub older : IsBelow main vs
  pub newest : AreOf main us

pub grows : (s : Stored) (us : List Version) (main : ℕ) → IsStored s → is_next s.revision us ≡ true → first_main_of us ≡ Some main → Grows main s.versions us
grows s us main st n e =
    let same : s.revision + 1 ≡ main = sym (next-main s.revision us main e n).0 in
    record {
      rising = rising-next s.revision s.versions us st.rising st.upto n;
      older = subst (λ m. IsBelow m s.versions) same (below-next s.revision s.versions st.upto);
      newest = subst (λ m. AreOf m us) same (next-of s.revision us n);
    }

pub grown-stored : (s : Stored) (us : List Version) (main : ℕ) → IsStored s → is_next s.revision us ≡ true → first_main_of us ≡ Some main
    → IsStored (record s { versions = s.versions ++ us; revision = main })
grown-stored s us main st n e =
    let g = grows s us main st n e in
    let next : main ≡ s.revision + 1 = (next-main s.revision us main e n).0 in
    record { opened = omega arith; rising = g.rising; upto = upto-below main s.versions us g.older g.newest }

pub appended-nothing : (s : Stored) (us : List Version) → first_main_of us ≡ None → s ≡ appended s us
appended-nothing s [] e = λ i. record s { versions = sym (append-nil s.versions) i }
appended-nothing s (u ∷ us) e = cc

pub blank_tables : (i : Index) (vs : List Version) (revision : ℕ) → i ≡ [] → vs ≡ [] → 1 ≤ revision → AreTables i (record { versions = vs; compacted = 0; revision = revision; place = oldest_place })
blank_tables i vs revision none empty opened = record {
  stored = record { opened = opened; rising = subst IsRising (sym empty) tt; upto = subst (IsUpTo revision) (sym empty) tt };
  agrees = subst (λ xs. Agrees i xs) (sym empty) (subst (λ j. Agrees j []) (sym none) agrees-nothing);
}

-- ---- the present revision goes, or stays

pub present-more : (main : ℕ) (s : Stored) → (main == s.revision && nat_lt 1 main) ≡ true → 1 < s.revision
present-more main s h =
    let parts = and_parts (main == s.revision) (nat_lt 1 main) h in
    let same = eqb-true main s.revision parts.0 in
    let more = ltb-true 1 main parts.1 in
    omega arith

pub present-retracted : (main : ℕ) (s : Stored) → (main == s.revision && nat_lt 1 main) ≡ true → ◌≡◌ {A = Stored} (record s { versions = retracted s.revision s.versions; revision = s.revision - 1 }) (retracted_to main s)
present-retracted main s h =
    let same : s.revision ≡ main = sym (eqb-true main s.revision (and_parts (main == s.revision) (nat_lt 1 main) h).0) in
    let gone : ◌≡◌ {A = Stored} (record s { versions = retracted s.revision s.versions; revision = s.revision - 1 }) (record s { versions = retracted main s.versions; revision = main - 1 }) =
    λ i. record s { versions = retracted (same i) s.versions; revision = same i - 1 } in
    gone ∙ sym (ap (λ b. cond b (record s { versions = retracted main s.versions; revision = main - 1 }) s) h)

pub other-retracted : (main : ℕ) (s : Stored) → (main == s.revision && nat_lt 1 main) ≡ false → s ≡ retracted_to main s
other-retracted main s h = sym (ap (λ b. cond b (record s { versions = retracted main s.versions; revision = main - 1 }) s) h)

-- ---- a trimming step

-- what is left rises still, up to the present revision
pub trimmed-rising : (vs : List Version) (p : Rev) (c : ℕ) → IsRising vs → IsRising (trimmed vs p c).versions
trimmed-rising vs p c r = trimmed-keeps IsRising vs p c r (λ t. rising-filter rev_of t vs r)

pub trimmed-upto : (main : ℕ) (vs : List Version) (p : Rev) (c : ℕ) → IsUpTo main vs → IsUpTo main (trimmed vs p c).versions
trimmed-upto main vs p c u = trimmed-keeps (IsUpTo main) vs p c u (λ t. each-filter (λ (v : Version). v.rev.main ≤ main) t vs u)

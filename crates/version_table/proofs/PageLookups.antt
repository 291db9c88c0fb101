-- In which page of rising pages a place is looked for.
use Rattle.std.proofs.Common.{◌≡◌, ℕ, zero, suc, ◌<◌, ◌≤◌, ◌*◌, List, [], ◌∷◌, ◌++◌, length, length-append, get_or, drop, Bool, true, false, not, cond}
use Rattle.std.proofs.Common.{Option, None, Some, filter, find, refl, sym, ◌∙◌, ap, subst, arith}
use Rattle.std.proofs.lemmas.List.{append-nil}
use Rattle.std.proofs.lemmas.List.Elements.{filter-append}
use Rattle.std.proofs.lemmas.List.Folds.{find-append}
use Rattle.std.specs.Prelude.{IfSome, option_map}
use Rattle.std.specs.Option.{option_or}
use Rattle.std.specs.List.{AllByRecursion, slice_get}
use Rattle.std.specs.List.Sorted.{IsPartitionedBy}
use Rattle.kv_model.specs.declared.version.Rev.{Rev}
use Rattle.kv_model.specs.declared.version.Version.{Version}
use Rattle.kv_model.specs.History.{rev_lt, is_at}
use Rattle.store_laws.proofs.PlaceLaws.{each-map}
use Rattle.store_laws.proofs.RevOrder.{rev_lt-trans, rev_lt-turn, is_rev-same, is_rev-before}
use Rattle.store_laws.proofs.Rising.{newest-cons, newest-none, newest-behind, behind-newest, behind-none, each-at}
use Rattle.version_table.specs.Rising.{IsBehind, IsRising, count_before, newest, rev_of}
use Rattle.version_table.specs.Paged.{Places, Fit, HaveVersions, ends_before, flat, is_past, pages_before, versions_in}
use Rattle.version_table.proofs.Rising.{IsAbove, above-not, none-above}
use Rattle.store_laws.proofs.HistoryLaws.{option_or-none, option_or-assoc}

-- ---- what stands on a page, and what stands behind it

each-parts : {X : Type 0} (P : X → Type 0) (xs ys : List X) → AllByRecursion P (xs ++ ys) → AllByRecursion P xs × AllByRecursion P ys
each-parts P [] ys h = (tt, h)
each-parts P (x ∷ xs) ys h = let k = each-parts P xs ys h.1 in ((h.0, k.0), k.1)

pub record Parted (xs ys : List Version) : Type 0 where
  pub front : IsRising xs
  pub back : IsRising ys
  pub apart : AllByRecursion (λ (x : Version). IsAbove x.rev ys) xs

pub parted : (xs ys : List Version) → IsRising (xs ++ ys) → Parted xs ys
parted [] ys r = record { front = tt; back = r; apart = tt }
parted (x ∷ xs) ys r =
    let rest = parted xs ys r.1 in
    let here = each-parts (λ (y : Version). rev_lt x.rev y.rev ≡ true) xs ys r.0 in
    record { front = (here.0, rest.front); back = rest.back; apart = (here.1, rest.apart) }

each-newest : (P : Version → Type 0) (vs : List Version) (l : Version) → newest vs ≡ Some l → AllByRecursion P vs → P l
each-newest P [] l e h = cc
each-newest P (v ∷ []) l e h = let same : v ≡ l = cc in subst P same h.0
each-newest P (v ∷ w ∷ ws) l e h = each-newest P (w ∷ ws) l (newest-cons v w ws ∙ e) h.1

pub past-behind : (p : Rev) (vs : List Version) → IsRising vs → ends_before p (newest vs) ≡ true → IsBehind p vs
past-behind p vs r h = by (newest vs) refl h
  where
    by : (o : Option Version) → newest vs ≡ o → ends_before p o ≡ true → IsBehind p vs
    by None e g = behind-none rev_of p vs e
    by (Some l) e g = behind-newest rev_of p vs l r e g

behind-past : (p : Rev) (vs : List Version) → IsBehind p vs → ends_before p (newest vs) ≡ true
behind-past p vs b = by (newest vs) refl
  where
    by : (o : Option Version) → newest vs ≡ o → ends_before p o ≡ true
    by None e = refl
    by (Some l) e = newest-behind rev_of p vs l e b

-- what stands behind a page that is not past stands above the place
pub unpast-above : (p : Rev) (vs ys : List Version) → AllByRecursion (λ (x : Version). IsAbove x.rev ys) vs
    → ends_before p (newest vs) ≡ false
    → IsAbove p ys
unpast-above p vs ys h g = by (newest vs) refl g
  where
    by : (o : Option Version) → newest vs ≡ o → ends_before p o ≡ false → IsAbove p ys
    by None e f = cc
    by (Some l) e f = above-not p l ys f (each-newest (λ (x : Version). IsAbove x.rev ys) vs l e h)

-- ---- pages that stand wholly before a place are the first ones

page-each : (P : Version → Type 0) (ps : List Places) (j : ℕ) (d : Places) → AllByRecursion P (flat ps) → j < length ps
    → AllByRecursion P (versions_in (get_or ps j d))
page-each P [] j d h l = absurd (omega arith)
page-each P (q ∷ ps) zero d h l = (each-parts P q.versions (flat ps) h).0
page-each P (q ∷ ps) (suc j) d h l = page-each P ps j d (each-parts P q.versions (flat ps) h).1 (omega arith)

through : (x p : Rev) (vs : List Version) → 0 < length vs → IsAbove x vs → ends_before p (newest vs) ≡ true → rev_lt x p ≡ true
through x p vs l a e = by (newest vs) refl e
  where
    by : (o : Option Version) → newest vs ≡ o → ends_before p o ≡ true → rev_lt x p ≡ true
    by None f g = let none : length vs ≡ 0 = ap length (newest-none vs f) in absurd (omega arith)
    by (Some m) f g = rev_lt-trans x m.rev p (each-newest (λ (v : Version). rev_lt x v.rev ≡ true) vs m f a) g

pub past-partitioned : (p : Rev) (ps : List Places) → IsRising (flat ps) → HaveVersions ps → IsPartitionedBy (is_past p) ps
past-partitioned p [] r h i j d l m e = absurd (omega arith)
past-partitioned p (q ∷ ps) r h zero zero d l m e = e
past-partitioned p (q ∷ ps) r h zero (suc j) d l m e =
    let inside : j < length ps = omega arith in
    let held : 0 < length (versions_in (get_or ps j d)) = each-at (λ (w : Places). 0 < length w.versions) ps j d h.1 inside in
    behind-past p q.versions
    (each-map (λ (x : Version). IsAbove x.rev (flat ps)) (λ (x : Version). rev_lt x.rev p ≡ true)
    (λ x a. through x.rev p (versions_in (get_or ps j d)) held (page-each (λ (v : Version). rev_lt x.rev v.rev ≡ true) ps j d a inside) e)
    q.versions (parted q.versions (flat ps) r).apart)
past-partitioned p (q ∷ ps) r h (suc i) zero d l m e = absurd (omega arith)
past-partitioned p (q ∷ ps) r h (suc i) (suc j) d l m e =
    past-partitioned p ps (parted q.versions (flat ps) r).back h.1 i j d (omega arith) (omega arith) e

-- ---- look-ups

none-behind : (p : Rev) (vs : List Version) → IsBehind p vs → find (is_at p) vs ≡ None
none-behind p [] b = refl
none-behind p (v ∷ vs) b = ap (λ c. cond c (Some v) (find (is_at p) vs)) (is_rev-before p v.rev b.0) ∙ none-behind p vs b.1

abbrev pub found_in : Rev → Option (List Version) → Option Version
found_in p None = None
found_in p (Some vs) = find (is_at p) vs

-- the version at a place stands in the first page that does not stand wholly before it
pub find-page : (p : Rev) (ps : List Places) → IsRising (flat ps)
    → find (is_at p) (flat ps) ≡ found_in p (option_map versions_in (slice_get ps (pages_before p ps)))
find-page p [] r = refl
find-page p (q ∷ ps) r = by (is_past p q) refl (find-page p ps (parted q.versions (flat ps) r).back)
  where
    by : (b : Bool) → is_past p q ≡ b
        → find (is_at p) (flat ps) ≡ found_in p (option_map versions_in (slice_get ps (pages_before p ps)))
        → find (is_at p) (q.versions ++ flat ps)
        ≡ found_in p (option_map versions_in (slice_get (q ∷ ps) (cond b (suc (pages_before p ps)) zero)))
    by true e rest = find-append (is_at p) q.versions (flat ps)
        ∙ ap (λ o. option_or o (find (is_at p) (flat ps)))
        (none-behind p q.versions (past-behind p q.versions (parted q.versions (flat ps) r).front e))
        ∙ rest
    by false e rest = find-append (is_at p) q.versions (flat ps)
        ∙ ap (option_or (find (is_at p) q.versions))
        (none-above p (flat ps) (unpast-above p q.versions (flat ps) (parted q.versions (flat ps) r).apart e))
        ∙ option_or-none (find (is_at p) q.versions)

next-behind : (p : Rev) (vs : List Version) → IsBehind p vs → find (λ v. not (rev_lt v.rev p)) vs ≡ None
next-behind p [] b = refl
next-behind p (v ∷ vs) b = ap (λ c. cond (not c) (Some v) (find (λ w. not (rev_lt w.rev p)) vs)) b.0 ∙ next-behind p vs b.1

next-held : (p : Rev) (vs : List Version) (o : Option Version) → ends_before p (newest vs) ≡ false
    → option_or (find (λ v. not (rev_lt v.rev p)) vs) o ≡ find (λ v. not (rev_lt v.rev p)) vs
next-held p [] o h = cc
next-held p (v ∷ []) o h = by (rev_lt v.rev p) h
  where
    by : (b : Bool) → b ≡ false → option_or (cond (not b) (Some v) None) o ≡ cond (not b) (Some v) None
    by true e = cc
    by false e = refl
next-held p (v ∷ w ∷ ws) o h = by (rev_lt v.rev p) (next-held p (w ∷ ws) o (ap (ends_before p) (newest-cons v w ws) ∙ h))
  where
    by : (b : Bool) → option_or (find (λ x. not (rev_lt x.rev p)) (w ∷ ws)) o ≡ find (λ x. not (rev_lt x.rev p)) (w ∷ ws)
        → option_or (cond (not b) (Some v) (find (λ x. not (rev_lt x.rev p)) (w ∷ ws))) o
        ≡ cond (not b) (Some v) (find (λ x. not (rev_lt x.rev p)) (w ∷ ws))
    by true rest = rest
    by false rest = refl

abbrev pub next_in : Rev → Option (List Version) → Option Version
next_in p None = None
next_in p (Some vs) = find (λ v. not (rev_lt v.rev p)) vs

-- and there stands the first one that is not before the place
pub next-page : (p : Rev) (ps : List Places) → IsRising (flat ps)
    → find (λ v. not (rev_lt v.rev p)) (flat ps) ≡ next_in p (option_map versions_in (slice_get ps (pages_before p ps)))
next-page p [] r = refl
next-page p (q ∷ ps) r = by (is_past p q) refl (next-page p ps (parted q.versions (flat ps) r).back)
  where
    by : (b : Bool) → is_past p q ≡ b
        → find (λ v. not (rev_lt v.rev p)) (flat ps) ≡ next_in p (option_map versions_in (slice_get ps (pages_before p ps)))
        → find (λ v. not (rev_lt v.rev p)) (q.versions ++ flat ps)
        ≡ next_in p (option_map versions_in (slice_get (q ∷ ps) (cond b (suc (pages_before p ps)) zero)))
    by true e rest = find-append (λ (v : Version). not (rev_lt v.rev p)) q.versions (flat ps)
        ∙ ap (λ o. option_or o (find (λ v. not (rev_lt v.rev p)) (flat ps)))
        (next-behind p q.versions (past-behind p q.versions (parted q.versions (flat ps) r).front e))
        ∙ rest
    by false e rest = find-append (λ (v : Version). not (rev_lt v.rev p)) q.versions (flat ps)
        ∙ next-held p q.versions (find (λ v. not (rev_lt v.rev p)) (flat ps)) e

-- ---- the versions from a place on

gone-behind : (p : Rev) (vs : List Version) → IsBehind p vs → filter (λ v. not (rev_lt v.rev p)) vs ≡ []
gone-behind p [] b = refl
gone-behind p (v ∷ vs) b =
    ap (λ c. cond (not c) (v ∷ filter (λ w. not (rev_lt w.rev p)) vs) (filter (λ w. not (rev_lt w.rev p)) vs)) b.0 ∙ gone-behind p vs b.1

kept-above : (p : Rev) (vs : List Version) → IsAbove p vs → filter (λ v. not (rev_lt v.rev p)) vs ≡ vs
kept-above p [] a = refl
kept-above p (v ∷ vs) a =
    ap (λ c. cond (not c) (v ∷ filter (λ w. not (rev_lt w.rev p)) vs) (filter (λ w. not (rev_lt w.rev p)) vs)) (rev_lt-turn p v.rev a.0)
    ∙ ap (λ us. v ∷ us) (kept-above p vs a.1)

pub from-here : (p : Rev) (vs : List Version) → IsRising vs → drop (count_before p vs) vs ≡ filter (λ v. not (rev_lt v.rev p)) vs
from-here p [] r = refl
from-here p (v ∷ vs) r = by (rev_lt v.rev p) refl (from-here p vs r.1)
  where
    by : (b : Bool) → rev_lt v.rev p ≡ b → drop (count_before p vs) vs ≡ filter (λ w. not (rev_lt w.rev p)) vs
        → drop (cond b (suc (count_before p vs)) zero) (v ∷ vs)
        ≡ cond (not b) (v ∷ filter (λ w. not (rev_lt w.rev p)) vs) (filter (λ w. not (rev_lt w.rev p)) vs)
    by true e rest = rest
    by false e rest = ap (λ us. v ∷ us) (sym (kept-above p vs (above-not p v vs e r.0)))

-- of the first page those that are not before the place, and all of the pages behind it
abbrev pub left_from : Rev → List Places → List Version
left_from p [] = []
left_from p (q ∷ qs) = filter (λ v. not (rev_lt v.rev p)) q.versions ++ flat qs

pub from-page : (p : Rev) (ps : List Places) → IsRising (flat ps)
    → filter (λ v. not (rev_lt v.rev p)) (flat ps) ≡ left_from p (drop (pages_before p ps) ps)
from-page p [] r = refl
from-page p (q ∷ ps) r = by (is_past p q) refl (from-page p ps (parted q.versions (flat ps) r).back)
  where
    by : (b : Bool) → is_past p q ≡ b
        → filter (λ v. not (rev_lt v.rev p)) (flat ps) ≡ left_from p (drop (pages_before p ps) ps)
        → filter (λ v. not (rev_lt v.rev p)) (q.versions ++ flat ps)
        ≡ left_from p (drop (cond b (suc (pages_before p ps)) zero) (q ∷ ps))
    by true e rest = filter-append (λ (v : Version). not (rev_lt v.rev p)) q.versions (flat ps)
        ∙ ap (λ us. us ++ filter (λ v. not (rev_lt v.rev p)) (flat ps))
        (gone-behind p q.versions (past-behind p q.versions (parted q.versions (flat ps) r).front e))
        ∙ rest
    by false e rest = filter-append (λ (v : Version). not (rev_lt v.rev p)) q.versions (flat ps)
        ∙ ap (λ us. filter (λ v. not (rev_lt v.rev p)) q.versions ++ us)
        (kept-above p (flat ps) (unpast-above p q.versions (flat ps) (parted q.versions (flat ps) r).apart e))

pub held-drop : (k : ℕ) (ps : List Places) → HaveVersions ps → HaveVersions (drop k ps)
held-drop zero ps h = h
held-drop (suc k) [] h = tt
held-drop (suc k) (p ∷ ps) h = held-drop k ps h.1

pub rising-drop : (k : ℕ) (ps : List Places) → IsRising (flat ps) → IsRising (flat (drop k ps))
rising-drop zero ps r = r
rising-drop (suc k) [] r = tt
rising-drop (suc k) (p ∷ ps) r = rising-drop k ps (parted p.versions (flat ps) r).back

-- ---- a version found on any page

found-above : (q p : Rev) (ys : List Version) (v : Version) → IsAbove q ys → find (is_at p) ys ≡ Some v → rev_lt q p ≡ true
found-above q p [] v a e = cc
found-above q p (y ∷ ys) v a e = by (is_at p y) refl e (found-above q p ys v a.1)
  where
    by : (b : Bool) → is_at p y ≡ b → cond b (Some y) (find (is_at p) ys) ≡ Some v → (find (is_at p) ys ≡ Some v → rev_lt q p ≡ true)
        → rev_lt q p ≡ true
    by true h g rest = subst (λ (r : Rev). rev_lt q r ≡ true) (is_rev-same p y.rev h) a.0
    by false h g rest = rest g

-- it is the one of all pages
pub find-in : (p : Rev) (ps : List Places) (i : ℕ) (vs : List Version) (v : Version) → IsRising (flat ps)
    → option_map versions_in (slice_get ps i) ≡ Some vs
    → find (is_at p) vs ≡ Some v
    → find (is_at p) (flat ps) ≡ Some v
find-in p [] i vs v r e f = cc
find-in p (q ∷ ps) zero vs v r e f =
    let same : q.versions ≡ vs = cc in
    find-append (is_at p) q.versions (flat ps)
    ∙ ap (λ us. option_or (find (is_at p) us) (find (is_at p) (flat ps))) same
    ∙ ap (λ o. option_or o (find (is_at p) (flat ps))) f
find-in p (q ∷ ps) (suc i) vs v r e f =
    let parts = parted q.versions (flat ps) r in
    let rest : find (is_at p) (flat ps) ≡ Some v = find-in p ps i vs v parts.back e f in
    find-append (is_at p) q.versions (flat ps)
    ∙ ap (λ o. option_or o (find (is_at p) (flat ps)))
    (none-behind p q.versions
    (each-map (λ (x : Version). IsAbove x.rev (flat ps)) (λ (x : Version). rev_lt x.rev p ≡ true)
    (λ x a. found-above x.rev p (flat ps) v a rest) q.versions parts.apart))
    ∙ rest

pub rising-page : (ps : List Places) (i : ℕ) (vs : List Version) → IsRising (flat ps)
    → option_map versions_in (slice_get ps i) ≡ Some vs
    → IsRising vs
rising-page [] i vs r e = cc
rising-page (q ∷ ps) zero vs r e = let same : q.versions ≡ vs = cc in subst IsRising same (parted q.versions (flat ps) r).front
rising-page (q ∷ ps) (suc i) vs r e = rising-page ps i vs (parted q.versions (flat ps) r).back e

pub some-other : {X : Type 0} (P Q : X → Type 0) → ((x : X) → P x → Q x) → (o : Option X) → IfSome o P → IfSome o Q
some-other P Q f None h = h
some-other P Q f (Some x) h = f x h

pub rising-at : (ps : List Places) (i : ℕ) (d : Places) → IsRising (flat ps) → i < length ps → IsRising (versions_in (get_or ps i d))
rising-at [] i d r l = absurd (omega arith)
rising-at (q ∷ ps) zero d r l = (parted q.versions (flat ps) r).front
rising-at (q ∷ ps) (suc i) d r l = rising-at ps i d (parted q.versions (flat ps) r).back (omega arith)

-- ---- the last and the first version

newest-append : (xs ys : List Version) → newest (xs ++ ys) ≡ option_or (newest ys) (newest xs)
newest-append [] ys = sym (option_or-none (newest ys))
newest-append (x ∷ xs) ys = ap (λ o. option_or o (Some x)) (newest-append xs ys) ∙ option_or-assoc (newest ys) (newest xs) (Some x)

or-held : (xs : List Version) (o : Option Version) → 0 < length xs → option_or (newest xs) o ≡ newest xs
or-held [] o h = absurd (omega arith)
or-held (x ∷ xs) o h = by (newest xs)
  where
    by : (m : Option Version) → option_or (option_or m (Some x)) o ≡ option_or m (Some x)
    by None = refl
    by (Some y) = refl

pub flat-held : (p : Places) (ps : List Places) → 0 < length p.versions → 0 < length (flat (p ∷ ps))
flat-held p ps h = by p.versions h
  where
    by : (vs : List Version) → 0 < length vs → 0 < length (vs ++ flat ps)
    by [] l = absurd (omega arith)
    by (v ∷ vs) l = omega arith

abbrev pub newest_in : Option Places → Option Version
newest_in None = None
newest_in (Some p) = newest p.versions

pub newest-flat : (ps : List Places) → HaveVersions ps → newest (flat ps) ≡ newest_in (newest ps)
newest-flat [] h = refl
newest-flat (p ∷ []) h = ap newest (append-nil p.versions)
newest-flat (p ∷ q ∷ ps) h = newest-append p.versions (flat (q ∷ ps))
    ∙ or-held (flat (q ∷ ps)) (newest p.versions) (flat-held q ps h.1.0)
    ∙ newest-flat (q ∷ ps) h.1
    ∙ ap newest_in (newest-cons p q ps)

abbrev pub first_in : Option (List Version) → Option Version
first_in None = None
first_in (Some vs) = slice_get vs 0

pub first-flat : (ps : List Places) → HaveVersions ps → slice_get (flat ps) 0 ≡ first_in (option_map versions_in (slice_get ps 0))
first-flat [] h = refl
first-flat (p ∷ ps) h = by p.versions h.0
  where
    by : (vs : List Version) → 0 < length vs → slice_get (vs ++ flat ps) 0 ≡ slice_get vs 0
    by [] l = absurd (omega arith)
    by (v ∷ vs) l = refl

-- no more pages than versions
pub pages-fit : (ps : List Places) → HaveVersions ps → length ps ≤ length (flat ps)
pages-fit [] h = omega arith
pages-fit (p ∷ ps) h = let rest : length ps ≤ length (flat ps) = pages-fit ps h.1 in by p.versions h.0 rest
  where
    by : (vs : List Version) → 0 < length vs → length ps ≤ length (flat ps) → suc (length ps) ≤ length (vs ++ flat ps)
    by [] l r = absurd (omega arith)
    by (v ∷ vs) l r = let more : length (flat ps) ≤ length (vs ++ flat ps) = longer vs in omega arith
      where
        longer : (us : List Version) → length (flat ps) ≤ length (us ++ flat ps)
        longer [] = omega arith
        longer (u ∷ us) = let m : length (flat ps) ≤ length (us ++ flat ps) = longer us in omega arith

-- and no fewer than the versions fill
pub pages-filled : (ps : List Places) → Fit ps → length (flat ps) ≤ 256 * length ps
pages-filled [] h = omega arith
pages-filled (p ∷ ps) h =
    let rest : length (flat ps) ≤ 256 * length ps = pages-filled ps h.1 in
    omega (arith, rest, h.0.0, h.0.1, length-append p.versions (flat ps))

-- What a change of one page makes of the versions of all.
use Rattle.std.proofs.Common.{◌≡◌, ℕ, zero, suc, ◌+◌, ◌-◌, ◌<◌, ◌≤◌, List, [], ◌∷◌, ◌++◌, length, get_or, set, Bool, true, false}
use Rattle.std.proofs.Common.{not, cond, IsTrue, ◌↔◌, Some, filter, refl, sym, ◌∙◌, ap, subst, append_assoc}
use Rattle.std.proofs.Common.{Result, Ok, Err, OnOk, arith, length-append}
use Rattle.std.proofs.lemmas.List.{append-nil, length_push}
use Rattle.std.proofs.lemmas.List.Elements.{filter-append}
use Rattle.std.proofs.lemmas.Grind.{flat_map-append}
use Rattle.std.proofs.lemmas.Option.{slice_get-get_or}
use Rattle.std.proofs.lemmas.Bool.Decides.{nat_tests}
use Rattle.std.specs.Prelude.{nat_lt}
use Rattle.std.specs.List.{remove, slice_get}
use Rattle.kv_model.specs.Lists.{is_empty}
use Rattle.kv_model.specs.declared.version.Rev.{Rev}
use Rattle.kv_model.specs.declared.version.Version.{Version}
use Rattle.kv_model.specs.History.{is_at, without_rev}
use Rattle.store_laws.proofs.PlaceLaws.{each-append}
use Rattle.store_laws.proofs.RevOrder.{is_rev-before}
use Rattle.store_laws.proofs.Rising.{newest-cons, others-above, slice_get-newest}
use Rattle.version_table.specs.Rising.{IsBehind, IsRising, newest, rev_of}
use Rattle.version_table.specs.Paged.{Places, Fit, HaveVersions, change_at, flat, freed, fresh, has_room, is_past, is_void, pages_before}
use Rattle.version_table.specs.Paged.{pushed, room_in, used_in, versions_in, with_version, without_version}
use Rattle.version_table.proofs.PageLookups.{parted, past-behind, unpast-above}

-- ---- one page changed

-- a write at an index
pub set-change : (f : Places → Places) (ps : List Places) (i : ℕ) (d : Places) → i < length ps
    → set ps i (f (get_or ps i d)) ≡ change_at f i ps
set-change f [] i d l = absurd (omega arith)
set-change f (p ∷ ps) zero d l = refl
set-change f (p ∷ ps) (suc i) d l = ap (λ qs. p ∷ qs) (set-change f ps i d (omega arith))

pub change-past : (f : Places → Places) (i : ℕ) (ps : List Places) → length ps ≤ i → change_at f i ps ≡ ps
change-past f i [] l = refl
change-past f zero (p ∷ ps) l = absurd (omega arith)
change-past f (suc i) (p ∷ ps) l = ap (λ qs. p ∷ qs) (change-past f i ps (omega arith))

pub length-change : (f : Places → Places) (i : ℕ) (ps : List Places) → length (change_at f i ps) ≡ length ps
length-change f i [] = refl
length-change f zero (p ∷ ps) = refl
length-change f (suc i) (p ∷ ps) = ap suc (length-change f i ps)

-- so many versions less on one page are so many less in all
pub fewer : (f : Places → Places) (n i : ℕ) (ps : List Places) (d : Places) → i < length ps
    → n + length (versions_in (f (get_or ps i d))) ≡ length (versions_in (get_or ps i d))
    → n + length (flat (change_at f i ps)) ≡ length (flat ps)
fewer f n i [] d l e = absurd (omega arith)
fewer f n zero (p ∷ ps) d l e =
    omega (arith, e, length-append (versions_in (f p)) (flat ps), length-append (versions_in p) (flat ps))
fewer f n (suc i) (p ∷ ps) d l e =
    let rest : n + length (flat (change_at f i ps)) ≡ length (flat ps) = fewer f n i ps d (omega arith) e in
    omega (arith, rest, length-append (versions_in p) (flat (change_at f i ps)), length-append (versions_in p) (flat ps))

-- ---- a page without versions goes

empty-nil : {X : Type 0} (xs : List X) → is_empty xs ≡ true → xs ≡ []
empty-nil [] e = refl
empty-nil (x ∷ xs) e = cc

pub empty-is : {X : Type 0} (b : Bool) (xs : List X) → (IsTrue b ↔ (xs ≡ [])) → b ≡ is_empty xs
empty-is true [] h = refl
empty-is true (x ∷ xs) h = let e : x ∷ xs ≡ [] = h.0 refl in cc
empty-is false [] h = let e : false ≡ true = h.1 refl in e
empty-is false (x ∷ xs) h = refl

full-held : {X : Type 0} (xs : List X) → is_empty xs ≡ false → 0 < length xs
full-held [] e = cc
full-held (x ∷ xs) e = omega arith

flat-remove : (i : ℕ) (ps : List Places) → is_void (slice_get ps i) ≡ true → flat (remove ps i) ≡ flat ps
flat-remove i [] e = cc
flat-remove zero (p ∷ ps) e = ap (λ us. us ++ flat ps) (sym (empty-nil p.versions e))
flat-remove (suc i) (p ∷ ps) e = ap (λ us. p.versions ++ us) (flat-remove i ps e)

pub flat-freed : (i : ℕ) (ps : List Places) → flat (freed i ps) ≡ flat ps
flat-freed i ps = by (is_void (slice_get ps i)) refl
  where
    by : (b : Bool) → is_void (slice_get ps i) ≡ b → flat (cond b (remove ps i) ps) ≡ flat ps
    by true e = flat-remove i ps e
    by false e = refl

pub held-freed : (f : Places → Places) (i : ℕ) (ps : List Places) → HaveVersions ps → HaveVersions (freed i (change_at f i ps))
held-freed f i [] h = tt
held-freed f zero (p ∷ ps) h = by (is_empty (versions_in (f p))) refl
  where
    by : (b : Bool) → is_empty (versions_in (f p)) ≡ b → HaveVersions (cond b (remove (f p ∷ ps) zero) (f p ∷ ps))
    by true e = h.1
    by false e = (full-held (versions_in (f p)) e, h.1)
held-freed f (suc i) (p ∷ ps) h = by (is_void (slice_get (change_at f i ps) i)) (held-freed f i ps h.1)
  where
    by : (b : Bool) → HaveVersions (cond b (remove (change_at f i ps) i) (change_at f i ps))
        → HaveVersions (cond b (remove (p ∷ change_at f i ps) (suc i)) (p ∷ change_at f i ps))
    by true rest = (h.0, rest)
    by false rest = (h.0, rest)

-- a page that fits still does with fewer versions
fit-freed : (f : Places → Places) (i : ℕ) (ps : List Places)
    → ((p : Places) → (length p.versions ≤ p.used) × (p.used ≤ 256) → (length (versions_in (f p)) ≤ used_in (f p)) × (used_in (f p) ≤ 256))
    → Fit ps → Fit (freed i (change_at f i ps))
fit-freed f i [] g h = tt
fit-freed f zero (p ∷ ps) g h = by (is_empty (versions_in (f p)))
  where
    by : (b : Bool) → Fit (cond b (remove (f p ∷ ps) zero) (f p ∷ ps))
    by true = h.1
    by false = (g p h.0, h.1)
fit-freed f (suc i) (p ∷ ps) g h = by (is_void (slice_get (change_at f i ps) i)) (fit-freed f i ps g h.1)
  where
    by : (b : Bool) → Fit (cond b (remove (change_at f i ps) i) (change_at f i ps))
        → Fit (cond b (remove (p ∷ change_at f i ps) (suc i)) (p ∷ change_at f i ps))
    by true rest = (h.0, rest)
    by false rest = (h.0, rest)

shorter : (t : Version → Bool) (vs : List Version) → length (filter t vs) ≤ length vs
shorter t [] = omega arith
shorter t (v ∷ vs) = let rest : length (filter t vs) ≤ length vs = shorter t vs in by (t v) rest
  where
    by : (b : Bool) → length (filter t vs) ≤ length vs → length (cond b (v ∷ filter t vs) (filter t vs)) ≤ suc (length vs)
    by true h = omega arith
    by false h = omega arith

pub fit-without : (r : Rev) (i : ℕ) (ps : List Places) → Fit ps → Fit (freed i (change_at (without_version r) i ps))
fit-without r i ps h = fit-freed (without_version r) i ps (λ p g. (omega (arith, g.0, shorter (λ v. not (is_at r v)) p.versions), g.1)) h

-- ---- a version is taken out

others-behind : (p : Rev) (vs : List Version) → IsBehind p vs → filter (λ v. not (is_at p v)) vs ≡ vs
others-behind p [] b = refl
others-behind p (v ∷ vs) b =
    ap (λ c. cond (not c) (v ∷ filter (λ w. not (is_at p w)) vs) (filter (λ w. not (is_at p w)) vs)) (is_rev-before p v.rev b.0)
    ∙ ap (λ us. v ∷ us) (others-behind p vs b.1)

-- it is taken out of the first page that does not stand wholly before its place
pub flat-without : (p : Rev) (ps : List Places) → IsRising (flat ps)
    → flat (change_at (without_version p) (pages_before p ps) ps) ≡ without_rev (Some p) (flat ps)
flat-without p [] r = refl
flat-without p (q ∷ ps) r = by (is_past p q) refl (flat-without p ps (parted q.versions (flat ps) r).back)
  where
    by : (b : Bool) → is_past p q ≡ b
        → flat (change_at (without_version p) (pages_before p ps) ps) ≡ without_rev (Some p) (flat ps)
        → flat (change_at (without_version p) (cond b (suc (pages_before p ps)) zero) (q ∷ ps))
        ≡ without_rev (Some p) (q.versions ++ flat ps)
    by true e rest = ap (λ us. q.versions ++ us) rest
        ∙ ap (λ us. us ++ without_rev (Some p) (flat ps))
        (sym (others-behind p q.versions (past-behind p q.versions (parted q.versions (flat ps) r).front e)))
        ∙ sym (filter-append (λ (v : Version). not (is_at p v)) q.versions (flat ps))
    by false e rest = ap (λ us. without_rev (Some p) q.versions ++ us)
        (sym (others-above rev_of p (flat ps) (unpast-above p q.versions (flat ps) (parted q.versions (flat ps) r).apart e)))
        ∙ sym (filter-append (λ (v : Version). not (is_at p v)) q.versions (flat ps))

-- ---- a version is added

flat-grown : (v : Version) (p : Places) (ps : List Places)
    → flat (change_at (with_version v) (length ps) (p ∷ ps)) ≡ flat (p ∷ ps) ++ v ∷ []
flat-grown v p [] = append-nil (p.versions ++ v ∷ []) ∙ ap (λ us. us ++ v ∷ []) (sym (append-nil p.versions))
flat-grown v p (q ∷ ps) = ap (λ us. p.versions ++ us) (flat-grown v q ps) ∙ sym (append_assoc p.versions (flat (q ∷ ps)) (v ∷ []))

flat-last : (v : Version) (ps : List Places) → has_room ps ≡ true → flat (change_at (with_version v) (length ps - 1) ps) ≡ flat ps ++ v ∷ []
flat-last v [] h = cc
flat-last v (p ∷ ps) h =
    let e : suc (length ps) - 1 ≡ length ps = omega arith in
    ap (λ i. flat (change_at (with_version v) i (p ∷ ps))) e ∙ flat-grown v p ps

pub flat-pushed : (v : Version) (ps : List Places) → flat (pushed v ps) ≡ flat ps ++ v ∷ []
flat-pushed v ps = by (has_room ps) refl
  where
    by : (b : Bool) → has_room ps ≡ b
        → flat (cond b (change_at (with_version v) (length ps - 1) ps) (ps ++ fresh v ∷ [])) ≡ flat ps ++ v ∷ []
    by true e = flat-last v ps e
    by false e = flat_map-append versions_in ps (fresh v ∷ [])

pub on-ok : {T E : Type 0} (A B : Type 0) → (A → B) → (r : Result T E) → OnOk r A → OnOk r B
on-ok A B f (Ok x) h = f h
on-ok A B f (Err e) h = h

pub room-some : (ps : List Places) → has_room ps ≡ true → 0 < length ps
room-some [] h = cc
room-some (p ∷ ps) h = omega arith

room-number : (n : ℕ) → nat_lt n 256 ≡ true → n < 256
room-number n h = grind (arith, nat_tests)

-- the last page has room
pub room-last : (ps : List Places) (d : Places) → has_room ps ≡ true → used_in (get_or ps (length ps - 1) d) < 256
room-last ps d h =
    let some : 0 < length ps = room-some ps h in
    let last : Some (get_or ps (length ps - 1) d) ≡ newest ps =
    sym (slice_get-get_or ps (length ps - 1) d (omega arith)) ∙ slice_get-newest ps in
    room-number (used_in (get_or ps (length ps - 1) d)) (ap room_in last ∙ h)

pub pushed-last : (v : Version) (ps : List Places) → has_room ps ≡ true → change_at (with_version v) (length ps - 1) ps ≡ pushed v ps
pushed-last v ps h = sym (ap (λ b. cond b (change_at (with_version v) (length ps - 1) ps) (ps ++ fresh v ∷ [])) h)

held-grown : (v : Version) (i : ℕ) (ps : List Places) → HaveVersions ps → HaveVersions (change_at (with_version v) i ps)
held-grown v i [] h = tt
held-grown v zero (p ∷ ps) h = (omega (arith, length_push p.versions v), h.1)
held-grown v (suc i) (p ∷ ps) h = (h.0, held-grown v i ps h.1)

pub held-pushed : (v : Version) (ps : List Places) → HaveVersions ps → HaveVersions (pushed v ps)
held-pushed v ps h = by (has_room ps)
  where
    by : (b : Bool) → HaveVersions (cond b (change_at (with_version v) (length ps - 1) ps) (ps ++ fresh v ∷ []))
    by true = held-grown v (length ps - 1) ps h
    by false = each-append (λ (p : Places). 0 < length p.versions) ps (fresh v ∷ []) h (omega arith, tt)

fit-grown : (v : Version) (p : Places) (ps : List Places) → room_in (newest (p ∷ ps)) ≡ true → Fit (p ∷ ps)
    → Fit (change_at (with_version v) (length ps) (p ∷ ps))
fit-grown v p [] e h =
    let less : p.used < 256 = room-number p.used e in
    ((omega (arith, h.0.0, length_push p.versions v), omega arith), tt)
fit-grown v p (q ∷ qs) e h = (h.0, fit-grown v q qs (ap room_in (newest-cons p q qs) ∙ e) h.1)

fit-last : (v : Version) (ps : List Places) → has_room ps ≡ true → Fit ps → Fit (change_at (with_version v) (length ps - 1) ps)
fit-last v [] e h = tt
fit-last v (p ∷ ps) e h =
    let same : length ps ≡ suc (length ps) - 1 = omega arith in
    subst (λ i. Fit (change_at (with_version v) i (p ∷ ps))) same (fit-grown v p ps e h)

pub fit-pushed : (v : Version) (ps : List Places) → Fit ps → Fit (pushed v ps)
fit-pushed v ps h = by (has_room ps) refl
  where
    by : (b : Bool) → has_room ps ≡ b → Fit (cond b (change_at (with_version v) (length ps - 1) ps) (ps ++ fresh v ∷ []))
    by true e = fit-last v ps e h
    by false e =
        each-append (λ (p : Places). (length p.versions ≤ p.used) × (p.used ≤ 256)) ps (fresh v ∷ []) h ((omega arith, omega arith), tt)

-- The entries of an index as they change.
use Rattle.std.proofs.Common.{◌≡◌, ◌≢◌, ℕ, List, [], ◌∷◌, ◌++◌, map, Bool, true, false, ◌||◌, cond, Option, None, Some}
use Rattle.std.proofs.Common.{unwrap_or, Result, Ok, Err, OnErr, refl, sym, ◌∙◌, ap}
use Rattle.std.specs.List.{AllByRecursion, list_any}
use Rattle.std.specs.Map.{set_value, remove_entry}
use Rattle.std.specs.BTreeMap.{insert_entry, is_at as is_key}
use Rattle.std.specs.declared.cmp.Ordering.{Ordering}
use Rattle.std.specs.declared.cmp.Ordering.TheVariants.{Less, Equal, Greater}
use Rattle.std.specs.Ordering.{is_eq, match_ordering}
use Rattle.std.specs.Cmp.Lexicographic.{nat_list_cmp_total}
use Rattle.std.proofs.lemmas.Map.Lookups.{exact_bytes}
use Rattle.kv_model.specs.declared.version.Rev.{Rev}
use Rattle.kv_model.specs.declared.version.Version.{Version}
use Rattle.kv_model.specs.Lists.{is_empty}
use Rattle.kv_model.specs.Keys.{key_cmp, same_key}
use Rattle.key_index.specs.KeyRevisions.{undone}
use Rattle.key_index.specs.Index.{Index, IsIndex, found, revisions, added, with_revision, with_revisions, undone_at, retracted}
use Rattle.key_index.proofs.KeyRevisions.{undone-undone}
use Rattle.store_laws.proofs.HistoryLaws.{same_key-eq}
use Rattle.key_index.proofs.Keys.{less-greater, eq-same}

abbrev pub IsBelow : List ℕ → Index → Type 0
IsBelow k es = AllByRecursion (λ f. key_cmp k f.0 ≡ Less) es

abbrev pub has : List ℕ → List ℕ → Bool
has k q = is_key (key_cmp k) q

-- ---- what holds of each entry, as the map changes

module _ (P : List ℕ × List Rev → Type 0) (k : List ℕ) (qs : List Rev) where
  pub each-set : ((j : List ℕ) (rs : List Rev) → P (j, rs) → P (j, qs)) → (es : Index) → AllByRecursion P es
      → AllByRecursion P (set_value (has k) es qs)
  each-set f [] h = tt
  each-set f (e ∷ es) h = by (has k e.0) (each-set f es h.1)
    where
      by : (b : Bool) → AllByRecursion P (set_value (has k) es qs)
          → AllByRecursion P (cond b ((e.0, qs) ∷ es) (e ∷ set_value (has k) es qs))
      by true rest = (f e.0 e.1 h.0, h.1)
      by false rest = (h.0, rest)

  pub each-insert : P (k, qs) → ((j : List ℕ) (rs : List Rev) → P (j, rs) → P (j, qs)) → (es : Index) → AllByRecursion P es
      → AllByRecursion P (insert_entry key_cmp es k qs)
  each-insert p f [] h = (p, tt)
  each-insert p f (e ∷ es) h = by (key_cmp k e.0) (each-insert p f es h.1)
    where
      by : (o : Ordering) → AllByRecursion P (insert_entry key_cmp es k qs)
          → AllByRecursion P (match_ordering o ((k, qs) ∷ e ∷ es) ((e.0, qs) ∷ es) (e ∷ insert_entry key_cmp es k qs))
      by Less rest = (p, h)
      by Equal rest = (f e.0 e.1 h.0, h.1)
      by Greater rest = (h.0, rest)

pub each-remove : (P : List ℕ × List Rev → Type 0) (k : List ℕ) (es : Index) → AllByRecursion P es
    → AllByRecursion P (remove_entry (has k) es)
each-remove P k [] h = tt
each-remove P k (e ∷ es) h = by (has k e.0) (each-remove P k es h.1)
  where
    by : (b : Bool) → AllByRecursion P (remove_entry (has k) es) → AllByRecursion P (cond b es (e ∷ remove_entry (has k) es))
    by true rest = h.1
    by false rest = (h.0, rest)

-- ---- it stays an index

pub index-set : (k : List ℕ) (ms : List Rev) → ms ≢ [] → (i : Index) → IsIndex i → IsIndex (set_value (has k) i ms)
index-set k ms n [] h = tt
index-set k ms n (e ∷ es) h = by (has k e.0) (index-set k ms n es h.2)
  where
    by : (b : Bool) → IsIndex (set_value (has k) es ms) → IsIndex (cond b ((e.0, ms) ∷ es) (e ∷ set_value (has k) es ms))
    by true rest = (n, h.1, h.2)
    by false rest = (h.0, each-set (λ f. key_cmp e.0 f.0 ≡ Less) k ms (λ j rs l. l) es h.1, rest)

pub index-remove : (k : List ℕ) (i : Index) → IsIndex i → IsIndex (remove_entry (has k) i)
index-remove k [] h = tt
index-remove k (e ∷ es) h = by (has k e.0) (index-remove k es h.2)
  where
    by : (b : Bool) → IsIndex (remove_entry (has k) es) → IsIndex (cond b es (e ∷ remove_entry (has k) es))
    by true rest = h.2
    by false rest = (h.0, each-remove (λ f. key_cmp e.0 f.0 ≡ Less) k es h.1, rest)

below-trans : (j k : List ℕ) (es : Index) → key_cmp j k ≡ Less → IsBelow k es → IsBelow j es
below-trans j k [] e h = tt
below-trans j k (f ∷ es) e h = (nat_list_cmp_total.trans j k f.0 e h.0, below-trans j k es e h.1)

pub index-insert : (k : List ℕ) (ms : List Rev) → ms ≢ [] → (i : Index) → IsIndex i → IsIndex (insert_entry key_cmp i k ms)
index-insert k ms n [] h = (n, tt, tt)
index-insert k ms n (f ∷ es) h = by (key_cmp k f.0) refl (index-insert k ms n es h.2)
  where
    by : (o : Ordering) → key_cmp k f.0 ≡ o → IsIndex (insert_entry key_cmp es k ms) → IsIndex (match_ordering o ((k, ms) ∷ f ∷ es) ((f.0, ms) ∷ es) (f ∷ insert_entry key_cmp es k ms))
    by Less e rest = (n, (e, below-trans k f.0 es e h.1), h)
    by Equal e rest = (n, h.1, h.2)
    by Greater e rest = (h.0, each-insert (λ g. key_cmp f.0 g.0 ≡ Less) k ms (less-greater k f.0 e) (λ j rs l. l) es h.1, rest)

some_there : (m : Rev) (ms : List Rev) → m ∷ ms ≢ []
some_there m ms e = cc

push_there : (ms : List Rev) (m : Rev) → ms ++ m ∷ [] ≢ []
push_there [] m e = cc
push_there (n ∷ ns) m e = cc

pub index-with_revision : (k : List ℕ) (m : Rev) (i : Index) → IsIndex i → IsIndex (with_revision k m i)
index-with_revision k m i h = by (found k i)
  where
    by : (o : Option (List Rev)) → IsIndex (added k m o i)
    by None = index-insert k (m ∷ []) (some_there m []) i h
    by (Some ms) = index-set k (ms ++ m ∷ []) (push_there ms m) i h

pub on_err : {E : Type 0} (r : Result (Unit {0}) E) (P Q : Type 0) → OnErr r P → (P → Q) → OnErr r Q
on_err (Ok u) P Q h f = tt
on_err (Err e) P Q h f = f h

pub index-with_revisions : (k : List ℕ) (ms : List Rev) (i : Index) → IsIndex i → IsIndex (with_revisions k ms i)
index-with_revisions k [] i h = index-remove k i h
index-with_revisions k (m ∷ ms) i h = index-set k (m ∷ ms) (some_there m ms) i h

pub index-retracted : (main : ℕ) (cs : List Version) (i : Index) → IsIndex i → IsIndex (retracted main cs i)
index-retracted main [] i h = h
index-retracted main (c ∷ cs) i h =
    index-retracted main cs (undone_at main c.key i) (index-with_revisions c.key (undone main (revisions c.key i)) i h)

-- ---- what the code does is that

-- a key that is not there, or has no revision left
remove-absent : (k : List ℕ) (i : Index) → found k i ≡ None → remove_entry (has k) i ≡ i
remove-absent k [] e = refl
remove-absent k (f ∷ es) e = by (has k f.0) e (λ g. remove-absent k es g)
  where
    by : (b : Bool) → cond b (Some f.1) (found k es) ≡ None → (found k es ≡ None → remove_entry (has k) es ≡ es) → cond b es (f ∷ remove_entry (has k) es) ≡ f ∷ es
    by true g rest = cc
    by false g rest = ap (λ l. f ∷ l) (rest g)

absent-with_revisions : (k : List ℕ) (ms : List Rev) (i : Index) → found k i ≡ None → ms ≡ [] → i ≡ with_revisions k ms i
absent-with_revisions k ms i e h = sym (ap (λ l. with_revisions k l i) h ∙ remove-absent k i e)

pub remove-set : (k : List ℕ) (ms : List Rev) (i : Index) → remove_entry (has k) (set_value (has k) i ms) ≡ remove_entry (has k) i
remove-set k ms [] = refl
remove-set k ms (f ∷ es) = by (has k f.0) refl (remove-set k ms es)
  where
    by : (b : Bool) → has k f.0 ≡ b → remove_entry (has k) (set_value (has k) es ms) ≡ remove_entry (has k) es
        → remove_entry (has k) (cond b ((f.0, ms) ∷ es) (f ∷ set_value (has k) es ms)) ≡ cond b es (f ∷ remove_entry (has k) es)
    by true e rest = ap (λ b. cond b es ((f.0, ms) ∷ remove_entry (has k) es)) e
    by false e rest = ap (λ b. cond b (set_value (has k) es ms) (f ∷ remove_entry (has k) (set_value (has k) es ms))) e ∙ ap (λ l. f ∷ l) rest

bare-with_revisions : (k : List ℕ) (ms : List Rev) (i : Index) → is_empty ms ≡ true
    → remove_entry (has k) (set_value (has k) i ms) ≡ with_revisions k ms i
bare-with_revisions k [] i e = remove-set k [] i
bare-with_revisions k (m ∷ ms) i e = cc

-- ---- what each key has then

both : {X : Type 0} (b : Bool) (x y z : X) → cond b x z ≡ cond b x (cond b y z)
both true x y z = refl
both false x y z = refl

apart : {X : Type 0} (a b : Bool) (x y z : X) → (a ≡ true → b ≡ true → ⊥) → cond a y (cond b x z) ≡ cond b x (cond a y z)
apart true true x y z h = absurd (h refl refl)
apart true false x y z h = refl
apart false b x y z h = refl

-- two keys that a third is
not_two : (q k l : List ℕ) → has k l ≡ false → has q l ≡ true → same_key k q ≡ true → ⊥
not_two q k l h a b =
    let one : has k l ≡ true = ap (λ j. has j l) (same_key-eq k q b) ∙ a in
    let f : true ≡ false = sym one ∙ h in
    cc

found-insert : (k : List ℕ) (v : List Rev) (q : List ℕ) (i : Index)
    → found q (insert_entry key_cmp i k v) ≡ cond (same_key k q) (Some v) (found q i)
found-insert k v q [] = ap (λ b. cond b (Some v) None) (eq-same q k)
found-insert k v q (e ∷ es) = by (key_cmp k e.0) refl (found-insert k v q es)
  where
    by : (o : Ordering) → key_cmp k e.0 ≡ o → found q (insert_entry key_cmp es k v) ≡ cond (same_key k q) (Some v) (found q es)
        → found q (match_ordering o ((k, v) ∷ e ∷ es) ((e.0, v) ∷ es) (e ∷ insert_entry key_cmp es k v)) ≡ cond (same_key k q) (Some v) (cond (has q e.0) (Some e.1) (found q es))
    by Less f rest = ap (λ b. cond b (Some v) (cond (has q e.0) (Some e.1) (found q es))) (eq-same q k)
    by Equal f rest =
        let one : has q e.0 ≡ same_key k q = eq-same q e.0 ∙ ap (λ j. same_key j q) (sym (exact_bytes k e.0 f)) in
        ap (λ b. cond b (Some v) (found q es)) one
        ∙ both (same_key k q) (Some v) (Some e.1) (found q es)
        ∙ ap (λ b. cond (same_key k q) (Some v) (cond b (Some e.1) (found q es))) (sym one)
    by Greater f rest = ap (λ o. cond (has q e.0) (Some e.1) o) rest ∙ apart (has q e.0) (same_key k q) (Some v) (Some e.1) (found q es) (not_two q k e.0 (ap is_eq f))

found-set : (k : List ℕ) (v : List Rev) (q : List ℕ) (i : Index) (w : List Rev) → found k i ≡ Some w
    → found q (set_value (has k) i v) ≡ cond (same_key k q) (Some v) (found q i)
found-set k v q [] w h = cc
found-set k v q (e ∷ es) w h = by (has k e.0) refl h (found-set k v q es w)
  where
    by : (b : Bool) → has k e.0 ≡ b → cond b (Some e.1) (found k es) ≡ Some w
        → (found k es ≡ Some w → found q (set_value (has k) es v) ≡ cond (same_key k q) (Some v) (found q es))
        → found q (cond b ((e.0, v) ∷ es) (e ∷ set_value (has k) es v)) ≡ cond (same_key k q) (Some v) (cond (has q e.0) (Some e.1) (found q es))
    by true f g rest =
        let one : has q e.0 ≡ same_key k q = eq-same q e.0 ∙ ap (λ j. same_key j q) (same_key-eq e.0 k (sym (eq-same k e.0) ∙ f)) in
        ap (λ b. cond b (Some v) (found q es)) one
        ∙ both (same_key k q) (Some v) (Some e.1) (found q es)
        ∙ ap (λ b. cond (same_key k q) (Some v) (cond b (Some e.1) (found q es))) (sym one)
    by false f g rest = ap (λ o. cond (has q e.0) (Some e.1) o) (rest g) ∙ apart (has q e.0) (same_key k q) (Some v) (Some e.1) (found q es) (not_two q k e.0 f)

-- a key below all of them is not among them
below-absent : (k : List ℕ) (es : Index) → IsBelow k es → found k es ≡ None
below-absent k [] h = refl
below-absent k (e ∷ es) h = ap (λ b. cond b (Some e.1) (found k es)) (ap is_eq h.0) ∙ below-absent k es h.1

found-remove : (k q : List ℕ) (i : Index) → IsIndex i → found q (remove_entry (has k) i) ≡ cond (same_key k q) None (found q i)
found-remove k q [] h = by (same_key k q)
  where
    by : (b : Bool) → let none : Option (List Rev) = None in none ≡ cond b None None
    by true = refl
    by false = refl
found-remove k q (e ∷ es) h = by (has k e.0) refl (found-remove k q es h.2)
  where
    here : (b : Bool) → same_key k q ≡ b → e.0 ≡ k → found q es ≡ cond b None (cond b (Some e.1) (found q es))
    here true f g = ap (λ j. found j es) (sym (g ∙ same_key-eq k q f)) ∙ below-absent e.0 es h.1
    here false f g = refl

    by : (b : Bool) → has k e.0 ≡ b → found q (remove_entry (has k) es) ≡ cond (same_key k q) None (found q es)
        → found q (cond b es (e ∷ remove_entry (has k) es)) ≡ cond (same_key k q) None (cond (has q e.0) (Some e.1) (found q es))
    by true f rest =
        let same : e.0 ≡ k = same_key-eq e.0 k (sym (eq-same k e.0) ∙ f) in
        let one : has q e.0 ≡ same_key k q = eq-same q e.0 ∙ ap (λ j. same_key j q) same in
        here (same_key k q) refl same ∙ ap (λ b. cond (same_key k q) None (cond b (Some e.1) (found q es))) (sym one)
    by false f rest = ap (λ o. cond (has q e.0) (Some e.1) o) rest ∙ apart (has q e.0) (same_key k q) None (Some e.1) (found q es) (not_two q k e.0 f)

pub revisions-with_revision : (k : List ℕ) (m : Rev) (i : Index) (q : List ℕ)
    → revisions q (with_revision k m i) ≡ cond (same_key k q) (revisions q i ++ m ∷ []) (revisions q i)
revisions-with_revision k m i q = by (found k i) refl
  where
    spread : (b : Bool) (v : List Rev) → (b ≡ true → v ≡ revisions q i ++ m ∷ [])
        → unwrap_or (cond b (Some v) (found q i)) [] ≡ cond b (revisions q i ++ m ∷ []) (revisions q i)
    spread true v h = h refl
    spread false v h = refl

    by : (o : Option (List Rev)) → found k i ≡ o
        → revisions q (added k m o i) ≡ cond (same_key k q) (revisions q i ++ m ∷ []) (revisions q i)
    by None e = ap (λ o. unwrap_or o []) (found-insert k (m ∷ []) q i)
        ∙ spread (same_key k q) (m ∷ []) (λ s. sym (ap (λ o. unwrap_or o [] ++ m ∷ []) (ap (λ j. found j i) (sym (same_key-eq k q s)) ∙ e)))
    by (Some ms) e = ap (λ o. unwrap_or o []) (found-set k (ms ++ m ∷ []) q i ms e)
        ∙ spread (same_key k q) (ms ++ m ∷ [])
        (λ s. sym (ap (λ o. unwrap_or o [] ++ m ∷ []) (ap (λ j. found j i) (sym (same_key-eq k q s)) ∙ e)))

pub revisions-with_revisions : (k : List ℕ) (ms : List Rev) (i : Index) → IsIndex i → (found k i ≡ None → ms ≡ []) → (q : List ℕ)
    → revisions q (with_revisions k ms i) ≡ cond (same_key k q) ms (revisions q i)
revisions-with_revisions k [] i h a q = ap (λ o. unwrap_or o []) (found-remove k q i h) ∙ spread (same_key k q)
  where
    spread : (b : Bool) → unwrap_or (cond b None (found q i)) [] ≡ cond b [] (revisions q i)
    spread true = refl
    spread false = refl
revisions-with_revisions k (m ∷ ms) i h a q = by (found k i) refl
  where
    spread : (b : Bool) → unwrap_or (cond b (Some (m ∷ ms)) (found q i)) [] ≡ cond b (m ∷ ms) (revisions q i)
    spread true = refl
    spread false = refl

    by : (o : Option (List Rev)) → found k i ≡ o → revisions q (set_value (has k) i (m ∷ ms)) ≡ cond (same_key k q) (m ∷ ms) (revisions q i)
    by None e = absurd (some_there m ms (a e))
    by (Some w) e = ap (λ o. unwrap_or o []) (found-set k (m ∷ ms) q i w e) ∙ spread (same_key k q)

-- ---- other revisions for a key, a function of those that it has

module _ (f : List Rev → List Rev) (nothing : f [] ≡ []) (k : List ℕ) (i : Index) where
  -- a key that is not there changes nothing
  pub absent-changed : found k i ≡ None → i ≡ with_revisions k (f (revisions k i)) i
  absent-changed e = absent-with_revisions k (f (revisions k i)) i e (ap (λ o. f (unwrap_or o [])) e ∙ nothing)

  -- and one that has no revision left goes
  pub bare-changed : (old new : List Rev) (set gone : Index) → Some old ≡ found k i → new ≡ f old → is_empty new ≡ true
      → set ≡ set_value (has k) i new → gone ≡ remove_entry (has k) set → gone ≡ with_revisions k (f (revisions k i)) i
  bare-changed old new set gone has_old is none e g =
      g ∙ ap (remove_entry (has k)) e ∙ bare-with_revisions k new i none
      ∙ ap (λ qs. with_revisions k qs i) (is ∙ ap (λ o. f (unwrap_or o [])) has_old)

  pub revisions-changed : IsIndex i → (q : List ℕ)
      → revisions q (with_revisions k (f (revisions k i)) i) ≡ cond (same_key k q) (f (revisions q i)) (revisions q i)
  revisions-changed h q =
      revisions-with_revisions k (f (revisions k i)) i h (λ e. ap (λ o. f (unwrap_or o [])) e ∙ nothing) q ∙ by (same_key k q) refl
    where
      by : (b : Bool) → same_key k q ≡ b → cond b (f (revisions k i)) (revisions q i) ≡ cond b (f (revisions q i)) (revisions q i)
      by true e = ap (λ j. f (revisions j i)) (same_key-eq k q e)
      by false e = refl

-- a change among these is of the key
abbrev pub changes_key : List ℕ → List Version → Bool
changes_key q cs = list_any (λ c. same_key c.key q) cs

pub revisions-retracted : (main : ℕ) (cs : List Version) (i : Index) → IsIndex i → (q : List ℕ)
    → revisions q (retracted main cs i) ≡ cond (changes_key q cs) (undone main (revisions q i)) (revisions q i)
revisions-retracted main [] i h q = refl
revisions-retracted main (c ∷ cs) i h q =
    revisions-retracted main cs (undone_at main c.key i) (index-with_revisions c.key (undone main (revisions c.key i)) i h) q
    ∙ ap (λ ms. cond (changes_key q cs) (undone main ms) ms) (revisions-changed (undone main) refl c.key i h q)
    ∙ by (changes_key q cs) (same_key c.key q)
  where
    by : (a b : Bool) → cond a (undone main (cond b (undone main (revisions q i)) (revisions q i)))
        (cond b (undone main (revisions q i)) (revisions q i)) ≡ cond (b || a) (undone main (revisions q i)) (revisions q i)
    by true true = undone-undone main (revisions q i)
    by true false = refl
    by false true = refl
    by false false = refl

-- ---- each element as it is

pub map-same : {X : Type 0} (xs : List X) → map (λ (x : X). x) xs ≡ xs
map-same [] = refl
map-same (x ∷ xs) = ap (λ l. x ∷ l) (map-same xs)

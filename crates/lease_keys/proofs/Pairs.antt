-- Pairs as they change.
use Rattle.std.proofs.Common.{◌≡◌, ◌≢◌, ℕ, ℤ, List, [], ◌∷◌, Bool, true, false, cond, Option, Some}
use Rattle.std.proofs.Common.{unwrap_or, Result, Ok, Err, OnOk, OnErr}
use Rattle.std.proofs.Common.{refl, sym, ◌∙◌, ap, subst}
use Rattle.std.specs.Prelude.{IsSome}
use Rattle.std.specs.Map.{lookup, set_value, remove_entry}
use Rattle.std.specs.declared.cmp.Ordering.{Ordering}
use Rattle.std.specs.declared.cmp.Ordering.TheVariants.{Less, Equal, Greater}
use Rattle.std.specs.Ordering.{int_cmp, int_eq, match_ordering}
use Rattle.std.specs.BTreeMap.{insert_entry, is_at}
use Rattle.std.specs.BTreeSet.{insert_key}
use Rattle.std.proofs.lemmas.Map.Steps.{set_value_same}
use Rattle.kv_model.specs.Lists.{is_empty}
use Rattle.kv_model.specs.Keys.{key_cmp}
use Rattle.lease_keys.specs.Pairs.{Pairs, HaveKeys, keys_at, AreSet, AreAdded}

abbrev pub found : ℤ → Pairs → Option (List (List ℕ))
found l ps = lookup (is_at (int_cmp l)) ps

pub updated : (l : ℤ) (ks : List (List ℕ)) (old new : Pairs) → ((q : ℤ) → found q new ≡ cond (int_eq l q) (Some ks) (found q old))
    → AreSet l ks old new
updated l ks old new h q = ap (λ o. unwrap_or o []) (h q) ∙ by (int_eq l q)
  where
    by : (b : Bool) → unwrap_or (cond b (Some ks) (found q old)) [] ≡ cond b ks (keys_at q old)
    by true = refl
    by false = refl

-- a change of the keys that a lease has
pub changed-through : (f : List (List ℕ) → List (List ℕ)) (l : ℤ) (old new : Pairs) (ks more : List (List ℕ)) → Some ks ≡ found l old
    → (IsSome (found l old) → (q : ℤ) → found q new ≡ cond (int_eq l q) (Some more) (found q old)) → more ≡ f ks
    → AreSet l (f (keys_at l old)) old new
changed-through f l old new ks more here writes e =
    subst (λ js. AreSet l js old new) (e ∙ ap (λ o. f (unwrap_or o [])) here)
    (updated l more old new (writes (subst IsSome here refl)))

-- a key that is added to the keys that a lease has
pub added-through : (l : ℤ) (k : List ℕ) (old new : Pairs) (ks more : List (List ℕ)) → Some ks ≡ found l old
    → (IsSome (found l old) → (q : ℤ) → found q new ≡ cond (int_eq l q) (Some more) (found q old)) → more ≡ insert_key key_cmp ks k
    → AreAdded l k old new
added-through l k = changed-through (λ ks. insert_key key_cmp ks k) l

empty-nil : (ks : List (List ℕ)) → is_empty ks ≡ true → ks ≡ []
empty-nil [] e = refl
empty-nil (k ∷ ks) e = cc

-- ---- no lease is without keys

inserted-there : (ks : List (List ℕ)) (k : List ℕ) → insert_key key_cmp ks k ≢ []
inserted-there [] k e = cc
inserted-there (j ∷ js) k e = by (key_cmp k j) e
  where
    by : (o : Ordering) → match_ordering o (k ∷ j ∷ js) (j ∷ js) (j ∷ insert_key key_cmp js k) ≡ [] → ⊥
    by Less e = cc
    by Equal e = cc
    by Greater e = cc

pub have-set : (l : ℤ) (ks : List (List ℕ)) → ks ≢ [] → (ps : Pairs) → HaveKeys ps → HaveKeys (set_value (is_at (int_cmp l)) ps ks)
have-set l ks n [] h = tt
have-set l ks n (p ∷ ps) h = by (is_at (int_cmp l) p.0) (have-set l ks n ps h.1)
  where
    by : (b : Bool) → HaveKeys (set_value (is_at (int_cmp l)) ps ks)
        → HaveKeys (cond b ((p.0, ks) ∷ ps) (p ∷ set_value (is_at (int_cmp l)) ps ks))
    by true rest = (n, h.1)
    by false rest = (h.0, rest)

pub have-insert : (l : ℤ) (ks : List (List ℕ)) → ks ≢ [] → (ps : Pairs) → HaveKeys ps → HaveKeys (insert_entry int_cmp ps l ks)
have-insert l ks n [] h = (n, tt)
have-insert l ks n (p ∷ ps) h = by (int_cmp l p.0) (have-insert l ks n ps h.1)
  where
    by : (o : Ordering) → HaveKeys (insert_entry int_cmp ps l ks)
        → HaveKeys (match_ordering o ((l, ks) ∷ p ∷ ps) ((p.0, ks) ∷ ps) (p ∷ insert_entry int_cmp ps l ks))
    by Less rest = (n, h)
    by Equal rest = (n, h.1)
    by Greater rest = (h.0, rest)

pub have-removed : (l : ℤ) (ps : Pairs) → HaveKeys ps → HaveKeys (remove_entry (is_at (int_cmp l)) ps)
have-removed l [] h = tt
have-removed l (p ∷ ps) h = by (is_at (int_cmp l) p.0) (have-removed l ps h.1)
  where
    by : (b : Bool) → HaveKeys (remove_entry (is_at (int_cmp l)) ps) → HaveKeys (cond b ps (p ∷ remove_entry (is_at (int_cmp l)) ps))
    by true rest = h.1
    by false rest = (h.0, rest)

-- the first key of a lease
pub have-first : (l : ℤ) (k : List ℕ) (ps : Pairs) → HaveKeys ps → HaveKeys (insert_entry int_cmp ps l (k ∷ []))
have-first l k ps h = have-insert l (k ∷ []) (λ e. cc) ps h

-- and one more
pub have-more : {E : Type 0} (r : Result (Unit {0}) E) (l : ℤ) (k : List ℕ) (old new : Pairs) (ks more : List (List ℕ))
    → Some ks ≡ found l old → new ≡ set_value (is_at (int_cmp l)) old more
    → OnOk r (more ≡ insert_key key_cmp ks k) → OnErr r (more ≡ ks) → HaveKeys old → HaveKeys new
have-more (Ok u) l k old new ks more here e ok err h =
    subst HaveKeys (sym (e ∙ ap (set_value (is_at (int_cmp l)) old) ok)) (have-set l (insert_key key_cmp ks k) (inserted-there ks k) old h)
have-more (Err u) l k old new ks more here e ok err h =
    subst HaveKeys (sym (e ∙ ap (set_value (is_at (int_cmp l)) old) err ∙ set_value_same (is_at (int_cmp l)) old ks (sym here))) h

-- a key less, where others are left
pub have-left : (l : ℤ) (ks : List (List ℕ)) (ps : Pairs) → is_empty ks ≡ false → HaveKeys ps
    → HaveKeys (set_value (is_at (int_cmp l)) ps ks)
have-left l ks ps e h = have-set l ks (λ f. let bad : false ≡ true = sym e ∙ ap is_empty f in cc) ps h

-- and where none is
pub have-bared : (l : ℤ) (ks : List (List ℕ)) (ps : Pairs) → HaveKeys ps
    → HaveKeys (remove_entry (is_at (int_cmp l)) (set_value (is_at (int_cmp l)) ps ks))
have-bared l ks [] h = tt
have-bared l ks (p ∷ ps) h = by (is_at (int_cmp l) p.0) refl (have-bared l ks ps h.1)
  where
    test : ℤ → Bool
    test m = is_at (int_cmp l) m

    by : (b : Bool) → test p.0 ≡ b → HaveKeys (remove_entry test (set_value test ps ks))
        → HaveKeys (remove_entry test (cond b ((p.0, ks) ∷ ps) (p ∷ set_value test ps ks)))
    by true e rest = subst (λ b. HaveKeys (cond b ps ((p.0, ks) ∷ remove_entry test ps))) (sym e) h.1
    by false e rest =
        subst (λ b. HaveKeys (cond b (set_value test ps ks) (p ∷ remove_entry test (set_value test ps ks)))) (sym e) (h.0, rest)

-- A trimming step from a place on, over versions that rise.
use Rattle.std.proofs.Common.{◌≡◌, ◌≤◌, ◌<◌, ◌⊎◌, ℕ, ◌+◌, ◌-◌, ◌^◌, List, [], ◌∷◌, ◌++◌, find, filter, Bool, true, false, not, ◌&&◌, cond}
use Rattle.std.proofs.Common.{None, Some, refl, sym, ◌∙◌, ap, inl, inr, arith}
use Rattle.std.specs.Prelude.{nat_le}
use Rattle.std.proofs.lemmas.Bool.{lt-leb, lt-ltb, le-ltb}
use Rattle.std.specs.List.{AllByRecursion}
use Rattle.kv_model.specs.declared.version.Rev.{Rev}
use Rattle.kv_model.specs.declared.version.Version.{Version}
use Rattle.kv_model.specs.History.{rev_lt}
use Rattle.store_laws.specs.Trimming.{place_after}
use Rattle.store_laws.proofs.RevOrder.{ranked, rev_lt-mains, rev_lt-subs, below-cases}

-- ---- places

-- the place behind another
pub after-self : (p : Rev) → p.main < 2 ^ 63 → p.sub < 2 ^ 64 → rev_lt p (place_after p) ≡ true
after-self p h g = by (ranked (2 ^ 64 - 1) p.sub)
  where
    by : (2 ^ 64 - 1 ≤ p.sub) ⊎ (p.sub < 2 ^ 64 - 1) → rev_lt p (place_after p) ≡ true
    by (inl a) = rw (le-ltb p.sub (2 ^ 64 - 1) a, lt-ltb p.main (2 ^ 64 - 1) (omega arith)) (rev_lt-mains p (record {
      main = p.main + 1;
      sub = 0;
    }) (omega arith))
    by (inr a) = rw (lt-ltb p.sub (2 ^ 64 - 1) a) (rev_lt-subs p (record p { sub = p.sub + 1 }) refl (omega arith))

-- and nothing stands between them
pub after-next : (p q : Rev) → p.main < 2 ^ 63 → p.sub < 2 ^ 64 → q.sub < 2 ^ 64 → rev_lt p q ≡ true → rev_lt q (place_after p) ≡ false
after-next p q h g k l = by (rev_lt q (place_after p)) refl
  where
    no : (2 ^ 64 - 1 ≤ p.sub) ⊎ (p.sub < 2 ^ 64 - 1) → rev_lt q (place_after p) ≡ true → ⊥
    no (inl a) e =
        let f : rev_lt q (record { main = p.main + 1; sub = 0 })
        ≡ true = (rw (le-ltb p.sub (2 ^ 64 - 1) a, lt-ltb p.main (2 ^ 64 - 1) (omega arith)) at e) in
        elim (below-cases p q l) [
          | inl x ↦ elim (below-cases q (record { main = p.main + 1; sub = 0 }) f) [
            | inl y ↦ omega arith
            | inr y ↦ omega arith
          ]
          | inr x ↦ omega arith
        ]
    no (inr a) e =
        let f : rev_lt q (record p { sub = p.sub + 1 }) ≡ true = (rw (lt-ltb p.sub (2 ^ 64 - 1) a) at e) in
        elim (below-cases p q l) [
          | inl x ↦ elim (below-cases q (record p { sub = p.sub + 1 }) f) [
            | inl y ↦ omega arith
            | inr y ↦ omega arith
          ]
          | inr x ↦ elim (below-cases q (record p { sub = p.sub + 1 }) f) [
            | inl y ↦ omega arith
            | inr y ↦ omega arith
          ]
        ]

    by : (b : Bool) → rev_lt q (place_after p) ≡ b → b ≡ false
    by true e = absurd (no (ranked (2 ^ 64 - 1) p.sub) e)
    by false e = refl

-- ---- the first version from a place on

-- those before it, and those after it
pub record First (p : Rev) (v : Version) (vs : List Version) : Type 0 where
  pub before : List Version
  pub after : List Version
  pub is : vs ≡ before ++ v ∷ after
  pub all_before : AllByRecursion (λ u. rev_lt u.rev p ≡ true) before
  pub from : rev_lt v.rev p ≡ false

pub first-from : (p : Rev) (v : Version) (vs : List Version) → find (λ u. not (rev_lt u.rev p)) vs ≡ Some v → First p v vs
first-from p v [] e = cc
first-from p v (u ∷ us) e = by (rev_lt u.rev p) refl (first-from p v us) e
  where
    by : (b : Bool) → rev_lt u.rev p ≡ b → (find (λ u. not (rev_lt u.rev p)) us ≡ Some v → First p v us)
        → cond (not b) (Some u) (find (λ u. not (rev_lt u.rev p)) us) ≡ Some v → First p v (u ∷ us)
    by true f rest e = let r = rest e in record {
      before = u ∷ r.before;
      after = r.after;
      is = ap (λ xs. u ∷ xs) r.is;
      all_before = (f, r.all_before);
      from = r.from;
    }
    by false f rest e = let same : u ≡ v = cc in record {
      before = [];
      after = us;
      is = ap (λ w. w ∷ us) same;
      all_before = tt;
      from = sym (ap (λ w. rev_lt w.rev p) same) ∙ f;
    }

pub none-from : (p : Rev) (vs : List Version) → find (λ u. not (rev_lt u.rev p)) vs ≡ None → AllByRecursion (λ u. rev_lt u.rev p ≡ true) vs
none-from p [] e = tt
none-from p (u ∷ us) e = by (rev_lt u.rev p) refl (none-from p us) e
  where
    by : (b : Bool) → rev_lt u.rev p ≡ b → (find (λ u. not (rev_lt u.rev p)) us ≡ None → AllByRecursion (λ u. rev_lt u.rev p ≡ true) us)
        → cond (not b) (Some u) (find (λ u. not (rev_lt u.rev p)) us) ≡ None → AllByRecursion (λ u. rev_lt u.rev p ≡ true) (u ∷ us)
    by true f rest e = (f, rest e)
    by false f rest e = cc

-- ---- what is to be visited

abbrev pub is_ahead : Rev → ℕ → Version → Bool
is_ahead p c v = not (rev_lt v.rev p) && nat_le v.rev.main c

pub ahead-none : (p : Rev) (c : ℕ) (vs : List Version) → AllByRecursion (λ u. rev_lt u.rev p ≡ true) vs → filter (is_ahead p c) vs ≡ []
ahead-none p c [] h = refl
ahead-none p c (v ∷ vs) h = ap (λ b. cond (not b && nat_le v.rev.main c) (v ∷ filter (is_ahead p c) vs) (filter (is_ahead p c) vs)) h.0
    ∙ ahead-none p c vs h.1

pub ahead-above : (p : Rev) (c : ℕ) (vs : List Version) → AllByRecursion (λ u. c < u.rev.main) vs → filter (is_ahead p c) vs ≡ []
ahead-above p c [] h = refl
ahead-above p c (v ∷ vs) h = by (not (rev_lt v.rev p)) (ahead-above p c vs h.1)
  where
    by : (b : Bool) → filter (is_ahead p c) vs ≡ [] → cond (b && nat_le v.rev.main c) (v
        ∷ filter (is_ahead p c) vs) (filter (is_ahead p c) vs) ≡ []
    by true rest = ap (λ b. cond b (v ∷ filter (is_ahead p c) vs) (filter (is_ahead p c) vs)) (lt-leb v.rev.main c h.0) ∙ rest
    by false rest = rest

pub ahead-same : (p q : Rev) (c : ℕ) (vs : List Version) → AllByRecursion (λ u. rev_lt u.rev p ≡ false) vs
    → AllByRecursion (λ u. rev_lt u.rev q ≡ false) vs → filter (is_ahead p c) vs ≡ filter (is_ahead q c) vs
ahead-same p q c [] g h = refl
ahead-same p q c (v ∷ vs) g h = λ i. cond (not ((g.0 ∙ sym h.0) i) && nat_le v.rev.main c) (v
    ∷ ahead-same p q c vs g.1 h.1 i) (ahead-same p q c vs g.1 h.1 i)

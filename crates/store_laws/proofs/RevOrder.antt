-- The order of revisions: by main, and then by sub.
use Rattle.std.proofs.Common.{◌≡◌, ◌≤◌, ◌<◌, ◌⊎◌, ℕ, Bool, true, false, not, ◌&&◌, refl, sym, ◌∙◌, ap, inl, inr, arith}
use Rattle.std.proofs.lemmas.Bool.Decides.{nat_tests}
use Rattle.std.proofs.lemmas.Bool.{eqb-true, eq-eqb}
use Rattle.std.specs.declared.cmp.Ordering.{Ordering}
use Rattle.std.specs.declared.cmp.Ordering.TheVariants.{Less, Equal, Greater}
use Rattle.std.specs.Prelude.{◌==◌}
use Rattle.std.specs.Ordering.{nat_cmp, ordering_then, is_lt, is_le, MatchOrdering}
use Rattle.std.specs.Cmp.{ranks}
use Rattle.kv_model.specs.declared.version.Rev.{Rev}
use Rattle.kv_model.specs.History.{rev_lt, rev_le}
use Rattle.store_laws.specs.Rising.{is_rev}

-- ---- in numbers

-- a number is at most another, or above it
pub ranked : (a b : ℕ) → (a ≤ b) ⊎ (b < a)
ranked a b = by (nat_cmp a b) (ranks a b)
  where
    by : (o : Ordering) → MatchOrdering o (a < b) (a ≡ b) (b < a) → (a ≤ b) ⊎ (b < a)
    by Less h = inl (omega arith)
    by Equal h = inl (omega arith)
    by Greater h = inr h

pub rev_lt-mains : (p q : Rev) → p.main < q.main → rev_lt p q ≡ true
rev_lt-mains p q h = go p.main q.main p.sub q.sub h
  where
    go : (a b c d : ℕ) → a < b → is_lt (ordering_then (nat_cmp a b) (nat_cmp c d)) ≡ true
    go a b c d h = grind (arith, nat_tests)

pub rev_lt-subs : (p q : Rev) → p.main ≡ q.main → p.sub < q.sub → rev_lt p q ≡ true
rev_lt-subs p q e h = go p.main q.main p.sub q.sub e h
  where
    go : (a b c d : ℕ) → a ≡ b → c < d → is_lt (ordering_then (nat_cmp a b) (nat_cmp c d)) ≡ true
    go a b c d e h = grind (arith, nat_tests)

-- one revision is below another by its main, or within one main
abbrev pub IsBelow : Rev → Rev → Type 0
IsBelow p q = (p.main < q.main) ⊎ ((p.main ≡ q.main) × (p.sub < q.sub))

pub below-cases : (p q : Rev) → rev_lt p q ≡ true → IsBelow p q
below-cases p q h = go p.main q.main p.sub q.sub h
  where
    go : (a b c d : ℕ) → is_lt (ordering_then (nat_cmp a b) (nat_cmp c d)) ≡ true → (a < b) ⊎ ((a ≡ b) × (c < d))
    go a b c d h = grind (arith, nat_tests)

-- what is not below another has a greater main, or the same and no smaller sub
not-below-cases : (p q : Rev) → rev_lt p q ≡ false → (q.main < p.main) ⊎ ((p.main ≡ q.main) × (q.sub ≤ p.sub))
not-below-cases p q h = go p.main q.main p.sub q.sub h
  where
    go : (a b c d : ℕ) → is_lt (ordering_then (nat_cmp a b) (nat_cmp c d)) ≡ false → (b < a) ⊎ ((a ≡ b) × (d ≤ c))
    go a b c d h = grind (arith, nat_tests)

pub rev_lt-main : (p q : Rev) → rev_lt p q ≡ true → p.main ≤ q.main
rev_lt-main p q h = by (below-cases p q h)
  where
    by : IsBelow p q → p.main ≤ q.main
    by (inl a) = omega arith
    by (inr a) = omega arith

-- and it has no smaller main
pub not-below-main : (p q : Rev) → rev_lt p q ≡ false → q.main ≤ p.main
not-below-main p q h = by (not-below-cases p q h)
  where
    by : (q.main < p.main) ⊎ ((p.main ≡ q.main) × (q.sub ≤ p.sub)) → q.main ≤ p.main
    by (inl a) = omega arith
    by (inr a) = omega arith

-- ---- below and up to

opposite : (a b c d : ℕ) → is_lt (ordering_then (nat_cmp a b) (nat_cmp c d)) ≡ not (is_le (ordering_then (nat_cmp b a) (nat_cmp d c)))
opposite a b c d = grind (arith, nat_tests)

-- one revision is below another where that one is not up to it
pub rev_lt-opposite : (p q : Rev) → rev_lt p q ≡ not (rev_le q p)
rev_lt-opposite p q = opposite p.main q.main p.sub q.sub

not-not : (b : Bool) → b ≡ not (not b)
not-not true = refl
not-not false = refl

rev_le-opposite : (p q : Rev) → rev_le p q ≡ not (rev_lt q p)
rev_le-opposite p q = not-not (rev_le p q) ∙ sym (ap not (rev_lt-opposite q p))

-- ---- not of itself, nor both ways

turned : (p q : Rev) → IsBelow p q → IsBelow q p → ⊥
turned p q (inl a) (inl b) = omega arith
turned p q (inl a) (inr b) = omega arith
turned p q (inr a) (inl b) = omega arith
turned p q (inr a) (inr b) = omega arith

pub rev_lt-turn : (p q : Rev) → rev_lt p q ≡ true → rev_lt q p ≡ false
rev_lt-turn p q h = by (rev_lt q p) refl
  where
    by : (b : Bool) → rev_lt q p ≡ b → b ≡ false
    by true e = absurd (turned p q (below-cases p q h) (below-cases q p e))
    by false e = refl

pub rev_lt-self : (p : Rev) → rev_lt p p ≡ false
rev_lt-self p = by (rev_lt p p) refl
  where
    by : (b : Bool) → rev_lt p p ≡ b → b ≡ false
    by true e = absurd (turned p p (below-cases p p e) (below-cases p p e))
    by false e = refl

-- ---- one after another

joined : (p q r : Rev) → IsBelow p q → IsBelow q r → rev_lt p r ≡ true
joined p q r (inl a) (inl b) = rev_lt-mains p r (omega arith)
joined p q r (inl a) (inr b) = rev_lt-mains p r (omega arith)
joined p q r (inr a) (inl b) = rev_lt-mains p r (omega arith)
joined p q r (inr a) (inr b) = rev_lt-subs p r (omega arith) (omega arith)

pub rev_lt-trans : (p q r : Rev) → rev_lt p q ≡ true → rev_lt q r ≡ true → rev_lt p r ≡ true
rev_lt-trans p q r h g = joined p q r (below-cases p q h) (below-cases q r g)

-- what is behind a place that is not before another is not before it
pub not-before : (p q r : Rev) → rev_lt p r ≡ false → rev_lt p q ≡ true → rev_lt q r ≡ false
not-before p q r h g = by (rev_lt q r) refl
  where
    by : (b : Bool) → rev_lt q r ≡ b → b ≡ false
    by true e = let f : true ≡ false = sym (rev_lt-trans p q r g e) ∙ h in cc
    by false e = refl

-- what is above one that is not before p is above p
pub rev_lt-not : (p q r : Rev) → rev_lt q p ≡ false → rev_lt q r ≡ true → rev_lt p r ≡ true
rev_lt-not p q r h g = by (not-below-cases q p h) (below-cases q r g)
  where
    by : (p.main < q.main) ⊎ ((q.main ≡ p.main) × (p.sub ≤ q.sub)) → IsBelow q r → rev_lt p r ≡ true
    by (inl a) (inl b) = rev_lt-mains p r (omega arith)
    by (inl a) (inr b) = rev_lt-mains p r (omega arith)
    by (inr a) (inl b) = rev_lt-mains p r (omega arith)
    by (inr a) (inr b) = rev_lt-subs p r (omega arith) (omega arith)

-- what is before one that is not after the place is not after it either
pub rev_lt-up_to : (p q r : Rev) → rev_lt p q ≡ true → rev_le q r ≡ true → rev_le p r ≡ true
rev_lt-up_to p q r h g = rev_le-opposite p r ∙ ap not (by (rev_lt r p) refl)
  where
    by : (b : Bool) → rev_lt r p ≡ b → b ≡ false
    by true e = let f : true ≡ false = sym (rev_lt-trans r p q e h) ∙ rev_lt-opposite r q ∙ ap not g in cc
    by false e = refl

-- and what is behind one that is after it is after it
pub rev_lt-beyond : (p q r : Rev) → rev_lt p q ≡ true → rev_le p r ≡ false → rev_le q r ≡ false
rev_lt-beyond p q r h g = by (rev_le q r) refl
  where
    by : (b : Bool) → rev_le q r ≡ b → b ≡ false
    by true e = let f : true ≡ false = sym (rev_lt-up_to p q r h e) ∙ g in cc
    by false e = refl

-- ---- the same revision

pub is_rev-self : (p : Rev) → is_rev p p ≡ true
is_rev-self p = λ i. eq-eqb p.main p.main refl i && eq-eqb p.sub p.sub refl i

pub is_rev-same : (p q : Rev) → is_rev p q ≡ true → q ≡ p
is_rev-same p q h = by (q.main == p.main) refl (q.sub == p.sub) refl h
  where
    by : (a : Bool) → (q.main == p.main) ≡ a → (b : Bool) → (q.sub == p.sub) ≡ b → (a && b) ≡ true → q ≡ p
    by true d true e h = λ i. record { main = eqb-true q.main p.main d i; sub = eqb-true q.sub p.sub e i }
    by true d false e h = cc
    by false d b e h = cc

-- what is before a revision or behind it is another one
pub is_rev-before : (p q : Rev) → rev_lt q p ≡ true → is_rev p q ≡ false
is_rev-before p q h = by (is_rev p q) refl
  where
    by : (b : Bool) → is_rev p q ≡ b → b ≡ false
    by true e = let f : true ≡ false = sym h ∙ ap (λ (r : Rev). rev_lt r p) (is_rev-same p q e) ∙ rev_lt-self p in cc
    by false e = refl

pub is_rev-behind : (p q : Rev) → rev_lt p q ≡ true → is_rev p q ≡ false
is_rev-behind p q h = by (is_rev p q) refl
  where
    by : (b : Bool) → is_rev p q ≡ b → b ≡ false
    by true e = let f : true ≡ false = sym h ∙ ap (rev_lt p) (is_rev-same p q e) ∙ rev_lt-self p in cc
    by false e = refl

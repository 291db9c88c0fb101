-- What a trimming step leaves of versions that rise, of whatever world they are.
use Rattle.std.proofs.Common.{◌≡◌, ◌≤◌, ◌<◌, ℕ, ◌^◌, List, [], ◌∷◌, ◌++◌, find, filter, Bool, true, false, not, ◌&&◌, cond}
use Rattle.std.proofs.Common.{Option, None, Some, refl, sym, ◌∙◌, ap, subst, arith}
use Rattle.std.specs.Prelude.{nat_le}
use Rattle.std.proofs.lemmas.Bool.{leb-true, le-leb, leb-false}
use Rattle.std.proofs.lemmas.List.Elements.{filter-append}
use Rattle.std.specs.List.{AllByRecursion}
use Rattle.std.proofs.Math.Bool.{and-false}
use Rattle.kv_model.specs.declared.version.Rev.{Rev}
use Rattle.kv_model.specs.declared.version.Version.{Version}
use Rattle.kv_model.specs.Lists.{IsPart}
use Rattle.kv_model.specs.History.{value_at, end_of, rev_lt, without_rev}
use Rattle.kv_model.specs.Told.{Trimmed}
use Rattle.store_laws.specs.Trimming.{TrimStep, trimmed, trimmed_next, visited, finished, place_after, is_trimmed, IsTrimmedTo}
use Rattle.store_laws.specs.Rising.{IsRising}
use Rattle.store_laws.specs.TrimmingLaws.{IsVisit}
use Rattle.store_laws.proofs.HistoryLaws.{AllByRecursion-split}
use Rattle.store_laws.proofs.PlaceLaws.{each-map, each-append}
use Rattle.store_laws.proofs.RevOrder.{rev_lt-main, rev_lt-trans, not-before}
use Rattle.store_laws.proofs.Rising.{IsAbove, rising-parts, others-middle}
use Rattle.store_laws.proofs.TrimLaws.{Precedes, AreRising, AreBefore, AreNumbered, AreLeft, goes-by, out-values}
use Rattle.store_laws.proofs.StepLaws.{fewer, part-self, part-without}
use Rattle.store_laws.proofs.PlaceSteps.{after-self, after-next, First, first-from, none-from, is_ahead}
use Rattle.store_laws.proofs.PlaceSteps.{ahead-none, ahead-above, ahead-same}

-- versions that rise, with numbers of 64 bits, and a compaction of 63
pub record IsOrderly (c : ℕ) (vs : List Version) : Type 0 where
  pub rising : IsRising (λ (v : Version). v.rev) vs
  pub numbers : AreNumbered vs
  pub small : c < 2 ^ 63

-- the versions that are to be visited, the next one first
abbrev pub to_visit : List Version → Rev → ℕ → List Version
to_visit vs p c = filter (is_ahead p c) vs

-- what a step leaves: it only takes out, nothing that goes is behind the place, and no key holds anything else from the
-- compaction on
pub record Leaves (c : ℕ) (vs : List Version) (p : Rev) (t : TrimStep) : Type 0 where
  pub part : IsPart t.versions vs
  pub up_to : IsTrimmedTo t.versions t.place c
  pub values : (r : ℕ) (k : List ℕ) → c ≤ r → value_at t.versions (end_of r) k ≡ value_at vs (end_of r) k
  pub visit : IsVisit t.told (to_visit vs p c) (to_visit t.versions t.place c)

-- versions of a history rise
pub rising-revs : (vs : List Version) → AreRising vs → IsRising (λ (v : Version). v.rev) vs
rising-revs [] h = tt
rising-revs (v ∷ vs) h = (each-map (Precedes v) (λ u. rev_lt v.rev u.rev ≡ true) (λ u a. a.0) vs h.0, rising-revs vs h.1)

-- where nothing is to be visited, what is not left to take out before the place is not left at all
pub settled-from : (vs : List Version) (p : Rev) (c : ℕ) (us : List Version) → to_visit us p c ≡ []
    → AllByRecursion (λ v. (rev_lt v.rev p && (nat_le v.rev.main c && is_trimmed vs c v)) ≡ false) us → AreLeft vs c us
settled-from vs p c [] e h = tt
settled-from vs p c (u ∷ us) e h = by (rev_lt u.rev p) refl (nat_le u.rev.main c) refl e h.0 (λ f. settled-from vs p c us f h.1)
  where
    by : (a : Bool) → rev_lt u.rev p ≡ a → (b : Bool) → nat_le u.rev.main c ≡ b
        → cond (not a && b) (u ∷ filter (is_ahead p c) us) (filter (is_ahead p c) us) ≡ []
        → (a && (b && is_trimmed vs c u)) ≡ false → (filter (is_ahead p c) us ≡ [] → AreLeft vs c us) → AreLeft vs c (u ∷ us)
    by true d b f e l rest = (ap (λ t. t && is_trimmed vs c u) f ∙ l, rest e)
    by false d true f e l rest = cc
    by false d false f e l rest = (ap (λ t. t && is_trimmed vs c u) f, rest e)

-- ---- a version is looked at

module _ (c : ℕ) (xs : List Version) (v : Version) (ys : List Version) (p : Rev) (o : IsOrderly c (xs ++ v ∷ ys))
    (to : IsTrimmedTo (xs ++ v ∷ ys) p c) (all_before : AllByRecursion (λ u. rev_lt u.rev p ≡ true) xs) (from : rev_lt v.rev p ≡ false)
    (low : v.rev.main ≤ c) where
  before : AreBefore v xs
  before = (rising-parts (λ (u : Version). u.rev) xs v ys o.rising).0

  above : IsAbove (λ (u : Version). u.rev) v.rev ys
  above = (rising-parts (λ (u : Version). u.rev) xs v ys o.rising).1

  numbers : AreNumbered (v ∷ ys)
  numbers = (AllByRecursion-split (λ u. u.rev.sub < 2 ^ 64) xs (v ∷ ys) o.numbers).1

  small : v.rev.main < 2 ^ 63
  small = omega (arith, o.small, low)

  abbrev IsPassed : List Version → Rev → Version → Type 0
  IsPassed vs q u = (rev_lt u.rev q && (nat_le u.rev.main c && is_trimmed vs c u)) ≡ false

  -- nothing before it goes
  pub left-before : AreLeft (xs ++ v ∷ ys) c xs
  left-before = settled-from (xs ++ v ∷ ys) p c xs (ahead-none p c xs all_before)
      (AllByRecursion-split (IsPassed (xs ++ v ∷ ys) p) xs (v ∷ ys) to).0

  next : Rev
  next = place_after v.rev

  self-before : rev_lt v.rev next ≡ true
  unfolding next
  self-before = after-self v.rev small numbers.0

  xs-before : AllByRecursion (λ u. rev_lt u.rev next ≡ true) xs
  xs-before = each-map (λ u. rev_lt u.rev v.rev ≡ true) (λ u. rev_lt u.rev next ≡ true)
      (λ u a. rev_lt-trans u.rev v.rev next a self-before) xs before

  ys-after : (us : List Version) → IsAbove (λ (u : Version). u.rev) v.rev us → AreNumbered us → AllByRecursion (λ u. rev_lt u.rev next
      ≡ false) us
  unfolding next
  ys-after [] h s = tt
  ys-after (u ∷ us) h s = (after-next v.rev u.rev small numbers.0 s.0 h.0, ys-after us h.1 s.1)

  ys-behind : AllByRecursion (λ u. rev_lt u.rev next ≡ false) ys
  ys-behind = ys-after ys above numbers.1

  ys-from : AllByRecursion (λ u. rev_lt u.rev p ≡ false) ys
  ys-from = each-map (λ u. rev_lt v.rev u.rev ≡ true) (λ u. rev_lt u.rev p ≡ false) (λ u a. not-before v.rev u.rev p from a) ys above

  -- it is the next one
  pub visit-next : to_visit (xs ++ v ∷ ys) p c ≡ v ∷ to_visit ys p c
  visit-next = filter-append (is_ahead p c) xs (v ∷ ys)
      ∙ (λ i. ahead-none p c xs all_before i ++ cond (not (from i) && le-leb v.rev.main c low i) (v
      ∷ filter (is_ahead p c) ys) (filter (is_ahead p c) ys))

  -- and what is left to visit comes after it, whether it stays
  pub visit-kept : to_visit (xs ++ v ∷ ys) (place_after v.rev) c ≡ to_visit ys p c
  unfolding next
  visit-kept = filter-append (is_ahead next c) xs (v ∷ ys)
      ∙ (λ i. ahead-none next c xs xs-before i ++ cond (not (self-before i) && nat_le v.rev.main c) (v
      ∷ filter (is_ahead next c) ys) (filter (is_ahead next c) ys))
      ∙ sym (ahead-same p next c ys ys-from ys-behind)

  -- or goes
  pub visit-removed : to_visit (xs ++ ys) (place_after v.rev) c ≡ to_visit ys p c
  unfolding next
  visit-removed = filter-append (is_ahead next c) xs ys
      ∙ (λ i. ahead-none next c xs xs-before i ++ filter (is_ahead next c) ys)
      ∙ sym (ahead-same p next c ys ys-from ys-behind)

  -- taken out by its revision, it alone goes
  pub taken-out : without_rev (Some v.rev) (xs ++ v ∷ ys) ≡ xs ++ ys
  taken-out = others-middle (λ (u : Version). u.rev) xs v ys before above

  -- where it goes, nothing that goes is behind the next place
  pub up_to-removed : IsTrimmedTo (xs ++ ys) (place_after v.rev) c
  unfolding next
  up_to-removed = each-append (IsPassed (xs ++ ys) next) xs ys
      (each-map (λ u. (nat_le u.rev.main c && is_trimmed (xs ++ v ∷ ys) c u) ≡ false) (IsPassed (xs ++ ys) next)
      (λ u l. ap (λ b. rev_lt u.rev next && b) (fewer xs v ys c u l) ∙ and-false (rev_lt u.rev next)) xs left-before)
      (each-map (λ u. rev_lt u.rev next ≡ false) (IsPassed (xs ++ ys) next)
      (λ u l. ap (λ b. b && (nat_le u.rev.main c && is_trimmed (xs ++ ys) c u)) l) ys ys-behind)

  -- and so it is where it stays
  pub up_to-kept : is_trimmed (xs ++ v ∷ ys) c v ≡ false → IsTrimmedTo (xs ++ v ∷ ys) (place_after v.rev) c
  unfolding next
  up_to-kept e = each-append (IsPassed (xs ++ v ∷ ys) next) xs (v ∷ ys)
      (each-map (λ u. (nat_le u.rev.main c && is_trimmed (xs ++ v ∷ ys) c u) ≡ false) (IsPassed (xs ++ v ∷ ys) next) passed xs left-before) (
        passed v (ap (λ b. nat_le v.rev.main c && b) e ∙ and-false (nat_le v.rev.main c)),
        each-map (λ u. rev_lt u.rev next ≡ false) (IsPassed (xs ++ v ∷ ys) next)
            (λ u l. ap (λ b. b && (nat_le u.rev.main c && is_trimmed (xs ++ v ∷ ys) c u)) l) ys ys-behind,
      )
    where
      passed : (u : Version) → (nat_le u.rev.main c && is_trimmed (xs ++ v ∷ ys) c u) ≡ false → IsPassed (xs ++ v ∷ ys) next u
      passed u l = ap (λ b. rev_lt u.rev next && b) l ∙ and-false (rev_lt u.rev next)

  visit-leaves : Leaves c (xs ++ v ∷ ys) p (visited (xs ++ v ∷ ys) c v)
  visit-leaves = by (is_trimmed (xs ++ v ∷ ys) c v) refl
    where
      goes : is_trimmed (xs ++ v ∷ ys) c v ≡ true → Leaves c (xs ++ v ∷ ys) p (record {
        told = Trimmed.removed v.rev;
        versions = without_rev (Some v.rev) (xs ++ v ∷ ys);
        place = place_after v.rev;
      })
      goes e = subst (λ us. Leaves c (xs ++ v ∷ ys) p (record {
        told = Trimmed.removed v.rev;
        versions = us;
        place = place_after v.rev;
      })) (sym taken-out) (record {
        part = part-without xs v ys;
        up_to = up_to-removed;
        values = λ r k l. sym (out-values c r xs v ys k (omega (arith, l)) (record {
          by = goes-by (xs ++ v ∷ ys) c v e;
          goes = e;
          before = before;
          left = left-before;
          numbers = numbers.1;
        }));
        visit = (v, refl, visit-next ∙ ap (λ us. v ∷ us) (sym visit-removed));
      })

      stays : is_trimmed (xs ++ v ∷ ys) c v ≡ false → Leaves c (xs ++ v ∷ ys) p (record {
        told = Trimmed.kept v.rev;
        versions = xs ++ v ∷ ys;
        place = place_after v.rev;
      })
      stays e = record {
        part = part-self (xs ++ v ∷ ys);
        up_to = up_to-kept e;
        values = λ r k l. refl;
        visit = (v, refl, visit-next ∙ ap (λ us. v ∷ us) (sym visit-kept));
      }

      by : (b : Bool) → is_trimmed (xs ++ v ∷ ys) c v ≡ b → Leaves c (xs ++ v ∷ ys) p (cond {A = TrimStep} b (record {
        told = Trimmed.removed v.rev;
        versions = without_rev (Some v.rev) (xs ++ v ∷ ys);
        place = place_after v.rev;
      }) (record {
        told = Trimmed.kept v.rev;
        versions = xs ++ v ∷ ys;
        place = place_after v.rev;
      }))
      by true e = goes e
      by false e = stays e

-- ---- the step

finish-leaves : (c : ℕ) (vs : List Version) (p : Rev) → IsTrimmedTo vs p c → to_visit vs p c ≡ [] → Leaves c vs p (finished vs p)
finish-leaves c vs p to e = record { part = part-self vs; up_to = to; values = λ r k l. refl; visit = (e, e) }

-- what stands from a version above the compaction on is not to be visited
pub none-ahead : (xs : List Version) (v : Version) (ys : List Version) (p : Rev) (c : ℕ) → IsRising (λ (u : Version). u.rev) (xs ++ v ∷ ys)
    → AllByRecursion (λ u. rev_lt u.rev p ≡ true) xs → c < v.rev.main → to_visit (xs ++ v ∷ ys) p c ≡ []
none-ahead xs v ys p c h before high = filter-append (is_ahead p c) xs (v ∷ ys)
    ∙ (λ i. ahead-none p c xs before i ++ ahead-above p c (v ∷ ys) (
      high,
      each-map (λ u. rev_lt v.rev u.rev ≡ true) (λ u. c < u.rev.main)
          (λ u a. let l : v.rev.main ≤ u.rev.main = rev_lt-main v.rev u.rev a in omega arith) ys
          (rising-parts (λ (u : Version). u.rev) xs v ys h).1,
    ) i)

pub step_leaves : (c : ℕ) (vs : List Version) (p : Rev) → IsOrderly c vs → IsTrimmedTo vs p c → Leaves c vs p (trimmed vs p c)
unfolding trimmed
step_leaves c vs p o to = by (find (λ u. not (rev_lt u.rev p)) vs) refl
  where
    looked : (v : Version) (f : First p v vs) (b : Bool) → nat_le v.rev.main c ≡ b
        → Leaves c vs p (cond b (visited vs c v) (finished vs p))
    looked v f true e = subst (λ us. Leaves c us p (visited us c v)) (sym f.is)
        (visit-leaves c f.before v f.after p (subst (IsOrderly c) f.is o) (subst (λ us. IsTrimmedTo us p c) f.is to) f.all_before f.from
        (leb-true v.rev.main c e))
    looked v f false e = finish-leaves c vs p to (subst (λ us. to_visit us p c ≡ []) (sym f.is)
        (none-ahead f.before v f.after p c (subst (IsOrderly c) f.is o).rising f.all_before (leb-false v.rev.main c e)))

    by : (q : Option Version) → find (λ u. not (rev_lt u.rev p)) vs ≡ q → Leaves c vs p (trimmed_next vs p c q)
    by None e = finish-leaves c vs p to (ahead-none p c vs (none-from p vs e))
    by (Some v) e = looked v (first-from p v vs e) (nat_le v.rev.main c) refl

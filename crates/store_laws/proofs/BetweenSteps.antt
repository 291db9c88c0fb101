-- What comes between trimming steps: later versions, and a later compaction.
use Rattle.std.proofs.Common.{◌≡◌, ◌≤◌, ◌<◌, ◌⊎◌, ℕ, ◌-◌, List, [], ◌∷◌, ◌++◌, filter, Bool, true, false, not, ◌&&◌, ◌||◌}
use Rattle.std.proofs.Common.{refl, ◌∙◌, ap, inl, inr, arith}
use Rattle.std.specs.Prelude.{nat_lt, nat_le}
use Rattle.std.proofs.lemmas.Bool.{lt-leb}
use Rattle.std.proofs.lemmas.List.{append-nil}
use Rattle.std.proofs.lemmas.List.Elements.{filter-append}
use Rattle.std.proofs.lemmas.List.Folds.{list_any-append}
use Rattle.std.specs.List.{AllByRecursion, list_any}
use Rattle.std.proofs.Math.Bool.{or-false, and-false}
use Rattle.kv_model.specs.declared.version.Rev.{Rev}
use Rattle.kv_model.specs.declared.version.Version.{Version}
use Rattle.kv_model.specs.History.{rev_lt, is_superseded, is_tombstone}
use Rattle.store_laws.specs.Trimming.{is_trimmed, oldest_place}
use Rattle.store_laws.specs.TrimmingLaws.{TrimmingStartsOver, TrimmingGoesOn, GoodStaysGood}
use Rattle.store_laws.proofs.PlaceLaws.{each-map, each-append}
use Rattle.store_laws.proofs.RevOrder.{below-cases}
use Rattle.store_laws.proofs.TrimLaws.{replaces, replaces-not}
use Rattle.store_laws.proofs.CompactLaws.{good-compacts}
use Rattle.store_laws.proofs.PlaceSteps.{is_ahead, ahead-above}

-- ---- the first place

first_of_all : (p : Rev) → rev_lt p oldest_place ≡ false
first_of_all p = by (rev_lt p oldest_place) refl
  where
    no : (p.main < 0) ⊎ ((p.main ≡ 0) × (p.sub < 0)) → ⊥
    no (inl a) = omega arith
    no (inr a) = omega arith

    by : (b : Bool) → rev_lt p oldest_place ≡ b → b ≡ false
    by true e = absurd (no (below-cases p oldest_place e))
    by false e = refl

none_behind : (vs : List Version) (c : ℕ) (us : List Version) → AllByRecursion (λ u. (rev_lt u.rev oldest_place
    && (nat_le u.rev.main c && is_trimmed vs c u)) ≡ false) us
none_behind vs c [] = tt
none_behind vs c (u ∷ us) = (ap (λ b. b && (nat_le u.rev.main c && is_trimmed vs c u)) (first_of_all u.rev), none_behind vs c us)

pub starts_over : TrimmingStartsOver
starts_over vs c = record {
  up_to = none_behind vs c vs;
  ahead = ap (λ (test : Version → Bool). filter test vs) (λ i u. not (first_of_all u.rev i) && nat_le u.rev.main c);
}

-- ---- later versions

none-replace : (c : ℕ) (v : Version) (us : List Version) → AllByRecursion (λ u. c < u.rev.main) us → list_any (replaces c v) us ≡ false
none-replace c v [] h = refl
none-replace c v (u ∷ us) h = λ i. replaces-not c v u (λ p. let a : c < u.rev.main = h.0 in let b : u.rev.main ≤ c = p.by in omega arith) i
    || none-replace c v us h.1 i

superseded-more : (vs us : List Version) (c : ℕ) (v : Version) → AllByRecursion (λ u. c < u.rev.main) us → is_superseded (vs ++ us) c v
    ≡ is_superseded vs c v
unfolding is_superseded
superseded-more vs us c v h = list_any-append (replaces c v) vs us ∙ ap (λ b. list_any (replaces c v) vs || b) (none-replace c v us h)
    ∙ or-false (list_any (replaces c v) vs)

trimmed-more : (vs us : List Version) (c : ℕ) (v : Version) → AllByRecursion (λ u. c < u.rev.main) us → is_trimmed (vs ++ us) c v
    ≡ is_trimmed vs c v
trimmed-more vs us c v h = ap (λ b. b || (is_tombstone v.body && nat_lt v.rev.main c)) (superseded-more vs us (c - 1) v
    (each-map (λ u. c < u.rev.main) (λ u. c - 1 < u.rev.main) (λ u l. omega (arith, l)) us h))

pub goes_on : TrimmingGoesOn
goes_on vs us p c high to = record {
  up_to = each-append (λ v. (rev_lt v.rev p && (nat_le v.rev.main c && is_trimmed (vs ++ us) c v)) ≡ false) vs us
      (each-map (λ v. (rev_lt v.rev p && (nat_le v.rev.main c && is_trimmed vs c v)) ≡ false) (λ v. (rev_lt v.rev p
      && (nat_le v.rev.main c && is_trimmed (vs ++ us) c v)) ≡ false)
      (λ v e. ap (λ b. rev_lt v.rev p && (nat_le v.rev.main c && b)) (trimmed-more vs us c v high) ∙ e) vs to)
      (each-map (λ u. c < u.rev.main) (λ v. (rev_lt v.rev p && (nat_le v.rev.main c && is_trimmed (vs ++ us) c v)) ≡ false)
      (λ v l. ap (λ b. rev_lt v.rev p && (b && is_trimmed (vs ++ us) c v)) (lt-leb v.rev.main c l) ∙ and-false (rev_lt v.rev p)) us high);
  ahead = filter-append (is_ahead p c) vs us ∙ ap (λ l. filter (is_ahead p c) vs ++ l) (ahead-above p c us high)
      ∙ append-nil (filter (is_ahead p c) vs);
}

-- ---- a later compaction

pub stays_good : GoodStaysGood
stays_good ms c d vs h l f g = good-compacts vs ms c d g h l

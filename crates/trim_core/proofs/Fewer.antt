-- What goes in fewer versions goes in more.
use Rattle.std.proofs.Common.{◌≡◌, ℕ, ◌-◌, List, [], ◌∷◌, Bool, true, false, ◌&&◌, ◌||◌, cond, filter, refl, ◌∙◌, ap}
use Rattle.std.specs.Prelude.{nat_le, nat_lt}
use Rattle.std.specs.List.{AllByRecursion, list_any}
use Rattle.std.proofs.lemmas.Bool.{or_parts}
use Rattle.kv_model.specs.declared.version.Rev.{Rev}
use Rattle.kv_model.specs.declared.version.Version.{Version}
use Rattle.kv_model.specs.Keys.{same_key}
use Rattle.kv_model.specs.History.{rev_lt, is_superseded, is_tombstone}
use Rattle.store_laws.specs.Trimming.{is_trimmed}
use Rattle.trim_core.specs.Steps.{FewerStayTrimmed}

any-filter : (s t : Version → Bool) (vs : List Version) → list_any s vs ≡ false → list_any s (filter t vs) ≡ false
any-filter s t [] e = refl
any-filter s t (v ∷ vs) e = let n = or_parts (s v) (list_any s vs) e in by (t v) n.0 (any-filter s t vs n.1)
  where
    by : (b : Bool) → s v ≡ false → list_any s (filter t vs) ≡ false → list_any s (cond b (v ∷ filter t vs) (filter t vs)) ≡ false
    by true h rest = ap (λ b. b || list_any s (filter t vs)) h ∙ rest
    by false h rest = rest

fewer-superseded : (vs : List Version) (t : Version → Bool) (c : ℕ) (v : Version) → is_superseded vs c v ≡ false
    → is_superseded (filter t vs) c v ≡ false
unfolding is_superseded
fewer-superseded vs t c v e = any-filter (λ u. same_key u.key v.key && rev_lt v.rev u.rev && nat_le u.rev.main c) t vs e

fewer-goes : (vs : List Version) (t : Version → Bool) (c : ℕ) (v : Version) → is_trimmed vs c v ≡ false
    → is_trimmed (filter t vs) c v ≡ false
fewer-goes vs t c v e =
    let n = or_parts (is_superseded vs (c - 1) v) (is_tombstone v.body && nat_lt v.rev.main c) e in
    ap (λ b. b || (is_tombstone v.body && nat_lt v.rev.main c)) (fewer-superseded vs t (c - 1) v n.0) ∙ n.1

module _ (vs : List Version) (t : Version → Bool) (p : Rev) (c : ℕ) where
  one : (v : Version) → (rev_lt v.rev p && (nat_le v.rev.main c && is_trimmed vs c v)) ≡ false
      → (rev_lt v.rev p && (nat_le v.rev.main c && is_trimmed (filter t vs) c v)) ≡ false
  one v e = by (rev_lt v.rev p) (nat_le v.rev.main c) e
    where
      by : (a b : Bool) → (a && (b && is_trimmed vs c v)) ≡ false → (a && (b && is_trimmed (filter t vs) c v)) ≡ false
      by true true f = fewer-goes vs t c v f
      by true false f = refl
      by false b f = refl

  each : (us : List Version) → AllByRecursion (λ v. (rev_lt v.rev p && (nat_le v.rev.main c && is_trimmed vs c v)) ≡ false) us
      → AllByRecursion (λ v. (rev_lt v.rev p && (nat_le v.rev.main c && is_trimmed (filter t vs) c v)) ≡ false) (filter t us)
  each [] h = tt
  each (u ∷ us) h = by (t u) (each us h.1)
    where
      by : (b : Bool) → AllByRecursion (λ v. (rev_lt v.rev p && (nat_le v.rev.main c && is_trimmed (filter t vs) c v)) ≡ false)
          (filter t us)
          → AllByRecursion (λ v. (rev_lt v.rev p && (nat_le v.rev.main c && is_trimmed (filter t vs) c v)) ≡ false)
          (cond b (u ∷ filter t us) (filter t us))
      by true rest = (one u h.0, rest)
      by false rest = rest

pub fewer-trimmed : FewerStayTrimmed
fewer-trimmed vs t p c h = each vs t p c vs h

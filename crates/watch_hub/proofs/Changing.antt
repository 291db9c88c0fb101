-- The guards where a watch of the slab is added, changed or taken out, and whether one waits.
use Rattle.std.proofs.Common.{◌≡◌, ◌≢◌, ℕ, ◌+◌, List, filter, Bool, true, false, not, ◌||◌, ◌==◌, cond, Option, None, Some, option_map}
use Rattle.std.proofs.Common.{option_and_then, refl, sym, ◌∙◌, ap, subst, arith}
use Rattle.std.specs.Prelude.{is_some}
use Rattle.std.proofs.lemmas.Bool.Decides.{nat_tests}
use Rattle.kv_model.specs.declared.version.KeyRange.{KeyRange}
use Rattle.store_laws.specs.Stands.{Tracked}
use Rattle.watch_hub.specs.declared.guards.Guard.{Guard}
use Rattle.watch_hub.specs.Guards.{range_at}
use Rattle.watch_hub.specs.Entries.{AreGuarded, AreReached}
use Rattle.watch_hub.proofs.Guarding.{range-removed}
use Rattle.watch_hub.proofs.Placing.{KeyChange}

abbrev pub range_of : Option Tracked → Option KeyRange
range_of o = option_map (λ t. t.watched.range) o

abbrev pub ahead_in : Option Tracked → Option ℕ
ahead_in o = option_and_then (λ t. t.ahead) o

-- ---- flags

pub or-left : (a b : Bool) → (a || b) ≡ false → a ≡ false
or-left true b h = h
or-left false b h = refl

pub or-right : (a b : Bool) → (a || b) ≡ false → b ≡ false
or-right true b h = absurd (cc)
or-right false b h = h

pub none-from : (o : Option ℕ) → is_some o ≡ false → o ≡ None
none-from None h = refl
none-from (Some m) h = absurd (cc)

-- ---- one place of the slab changes

module _ (c : KeyChange) where
  -- what the change leaves at each place, by whether it is the changed one
  by-place : (P : ℕ → Type 0) → P c.key → ((p : ℕ) → (c.key == p) ≡ false → p ≢ c.key → P p) → (p : ℕ) → P p
  by-place P here others p = by (c.key == p) refl
    where
      by : (b : Bool) → (c.key == p) ≡ b → P p
      by true e = subst P (let same : c.key ≡ p = grind (arith, nat_tests) in same) here
      by false e = others p e (grind (arith, nat_tests))

  pub reached-changed : ahead_in (c.after c.key) ≡ None → AreReached c.before → AreReached c.after
  reached-changed e h = by-place (λ p. ahead_in (c.after p) ≡ None) e (λ p f d. ap ahead_in (c.others p d) ∙ h p)

  pub guarded-changed : (gs : List Guard) → range_of (c.after c.key) ≡ range_of (c.before c.key) → AreGuarded c.before gs
      → AreGuarded c.after gs
  guarded-changed gs e h = by-place (λ p. range_at p gs ≡ range_of (c.after p)) (h c.key ∙ sym e) (λ p f d. h p ∙ ap range_of (sym (c.others p d)))

  pub guarded-added : (gs new : List Guard) (t : Tracked) → c.before c.key ≡ None → c.after c.key ≡ Some t → AreGuarded c.before gs
      → (range_at c.key gs ≡ None → (p : ℕ) → range_at p new ≡ cond (c.key == p) (Some t.watched.range) (range_at p gs)) → AreGuarded c.after new
  guarded-added gs new t v e h r = by-place (λ p. range_at p new ≡ range_of (c.after p)) here
      (λ p f d. put p ∙ ap (λ b. cond b (Some t.watched.range) (range_at p gs)) f ∙ h p ∙ ap range_of (sym (c.others p d)))
    where
      put : (p : ℕ) → range_at p new ≡ cond (c.key == p) (Some t.watched.range) (range_at p gs)
      put = r (h c.key ∙ ap range_of v)

      same : (c.key == c.key) ≡ true
      same = grind (arith, nat_tests)

      here : range_at c.key new ≡ range_of (c.after c.key)
      here = put c.key ∙ ap (λ b. cond b (Some t.watched.range) (range_at c.key gs)) same ∙ ap range_of (sym e)

  pub guarded-removed : (gs : List Guard) → c.after c.key ≡ None → AreGuarded c.before gs
      → AreGuarded c.after (filter (λ g. not (g.place == c.key)) gs)
  guarded-removed gs e h = by-place (λ p. range_at p (filter (λ g. not (g.place == c.key)) gs) ≡ range_of (c.after p)) here
      (λ p f d. range-removed c.key gs p ∙ ap (λ b. cond b None (range_at p gs)) f ∙ h p ∙ ap range_of (sym (c.others p d)))
    where
      same : (c.key == c.key) ≡ true
      same = grind (arith, nat_tests)

      here : range_at c.key (filter (λ g. not (g.place == c.key)) gs) ≡ range_of (c.after c.key)
      here = range-removed c.key gs c.key ∙ ap (λ b. cond b None (range_at c.key gs)) same ∙ ap range_of (sym e)

-- Where versions rise, those of one key from a revision on tell whether one of them is superseded.
use Rattle.std.proofs.Common.{◌≡◌, ◌≤◌, ℕ, filter, List, [], ◌∷◌, Bool, true, false, ◌&&◌, ◌||◌, cond, refl, sym, ◌∙◌, ap}
use Rattle.std.specs.Prelude.{nat_le}
use Rattle.std.specs.List.{list_any}
use Rattle.std.proofs.lemmas.Bool.{le-leb}
use Rattle.kv_model.specs.declared.version.Rev.{Rev}
use Rattle.kv_model.specs.declared.version.Version.{Version}
use Rattle.kv_model.specs.Keys.{same_key}
use Rattle.kv_model.specs.History.{rev_lt, is_superseded}
use Rattle.version_table.specs.Rising.{IsRising}
use Rattle.store_laws.proofs.RevOrder.{rev_lt-main}
use Rattle.witness_core.specs.Making.{is_first_by}
use Rattle.witness_core.proofs.Following.{later, none-later}

module _ (k : List ℕ) (p : Rev) (r : ℕ) where
  abbrev own : Version → Bool
  own u = nat_le p.main u.rev.main && same_key u.key k

  by-own : (vs : List Version) → IsRising vs → list_any (later k p r) vs ≡ is_first_by p r (filter own vs)
  by-own [] s = refl
  by-own (u ∷ us) s =
      by (same_key u.key k) refl (rev_lt p u.rev) refl (nat_le p.main u.rev.main) refl (nat_le u.rev.main r) refl (by-own us s.1)
    where
      skip : (e : Bool) → rev_lt p u.rev ≡ false → list_any (later k p r) us ≡ is_first_by p r (filter own us)
          → list_any (later k p r) us ≡ is_first_by p r (cond e (u ∷ filter own us) (filter own us))
      skip true f rest = rest ∙ sym (ap (λ b. cond b (nat_le u.rev.main r) (is_first_by p r (filter own us))) f)
      skip false f rest = rest

      by : (a : Bool) → same_key u.key k ≡ a → (b : Bool) → rev_lt p u.rev ≡ b → (e : Bool) → nat_le p.main u.rev.main ≡ e
          → (d : Bool) → nat_le u.rev.main r ≡ d
          → list_any (later k p r) us ≡ is_first_by p r (filter own us)
          → ((a && b && d) || list_any (later k p r) us) ≡ is_first_by p r (cond (e && a) (u ∷ filter own us) (filter own us))
      by true f true g true h true i rest =
          sym (ap (λ b. cond b (nat_le u.rev.main r) (is_first_by p r (filter own us))) g ∙ i)
      by true f true g true h false i rest =
          none-later k p r u.rev us s.0 i
          ∙ sym (ap (λ b. cond b (nat_le u.rev.main r) (is_first_by p r (filter own us))) g ∙ i)
      by true f true g false h d i rest =
          let x : false ≡ true = sym h ∙ le-leb p.main u.rev.main (rev_lt-main p u.rev g) in cc
      by true f false g e h d i rest = skip (e && true) g rest
      by false f b g e h d i rest = none e
        where
          none : (x : Bool) → list_any (later k p r) us ≡ is_first_by p r (cond (x && false) (u ∷ filter own us) (filter own us))
          none true = rest
          none false = rest

pub superseded-own : (vs : List Version) (v : Version) (r : ℕ) → IsRising vs
    → is_first_by v.rev r (filter (λ u. nat_le v.rev.main u.rev.main && same_key u.key v.key) vs) ≡ is_superseded vs r v
unfolding is_superseded
superseded-own vs v r s = sym (by-own v.key v.rev r vs s)

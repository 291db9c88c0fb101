-- The rule of trimming by what stays: the last version of each key, and the put before a version at the compaction.
use Rattle.std.proofs.Common.{◌≡◌, ◌≤◌, ◌<◌, ℕ, ◌-◌, List, [], ◌∷◌, Bool, true, false, not, ◌&&◌, ◌||◌, refl, sym, ◌∙◌, ap, arith}
use Rattle.std.specs.Prelude.{nat_lt}
use Rattle.std.specs.List.{list_any}
use Rattle.std.proofs.Math.Bool.{or-true}
use Rattle.std.proofs.lemmas.Bool.{ltb-false}
use Rattle.kv_model.specs.declared.version.Version.{Version}
use Rattle.kv_model.specs.Lists.{IsPart, IsIn}
use Rattle.kv_model.specs.History.{Mutation, now, dress, is_superseded, is_tombstone}
use Rattle.store_laws.specs.Sound.{IsHistory}
use Rattle.store_laws.specs.TrimmingLaws.{TrimmingIsByUse}
use Rattle.store_laws.proofs.LeastLaws.{each-in, not-itself}
use Rattle.store_laws.proofs.TrimLaws.{AreRising, Replaces, Sits, replaces, replaces-of, replaces-as, rising-dress, rising-part, sit-part}

-- what replaces a version up to a revision does so up to a later one
replaced-later : (q r : ℕ) (v : Version) (us : List Version) → q ≤ r → list_any (replaces q v) us ≡ true → list_any (replaces r v) us ≡ true
replaced-later q r v [] l e = cc
replaced-later q r v (u ∷ us) l e = by (replaces q v u) refl (replaced-later q r v us l) e
  where
    by : (b : Bool) → replaces q v u ≡ b → (list_any (replaces q v) us ≡ true → list_any (replaces r v) us ≡ true)
        → (b || list_any (replaces q v) us) ≡ true → (replaces r v u || list_any (replaces r v) us) ≡ true
    by true f rest e =
        let p : Replaces q v u = replaces-of q v u f in
        let m : u.rev.main ≤ q = p.by in
        ap (λ b. b || list_any (replaces r v) us) (replaces-as r v u (record { key = p.key; later = p.later; by = omega arith }))
    by false f rest e = ap (λ b. replaces r v u || b) (rest e) ∙ or-true (replaces r v u)

-- by the four tests: replaced below the compaction, replaced at or below it, a tombstone, below the compaction
by-tests : (before replaced gone below : Bool) → (before ≡ true → replaced ≡ true) → (below ≡ false → replaced ≡ false)
    → (before || (gone && below)) ≡ not ((not replaced && not (gone && below)) || (not gone && below && (replaced && not before)))
by-tests true false gone below f g = let e : false ≡ true = f refl in cc
by-tests before true gone false f g = let e : true ≡ false = g refl in cc
by-tests true true true true f g = refl
by-tests true true false true f g = refl
by-tests false true true true f g = refl
by-tests false true false true f g = refl
by-tests false false true true f g = refl
by-tests false false false true f g = refl
by-tests false false true false f g = refl
by-tests false false false false f g = refl

pub by-use : TrimmingIsByUse
unfolding is_superseded
by-use ms c vs v h part i low = by-tests (is_superseded vs (c - 1) v) (is_superseded vs c v) (is_tombstone v.body) (nat_lt v.rev.main c)
    (replaced-later (c - 1) c v vs (omega arith)) at
  where
    rising : AreRising vs
    rising = rising-part part (rising-dress ms h)

    at : nat_lt v.rev.main c ≡ false → is_superseded vs c v ≡ false
    at e = let from : c ≤ v.rev.main = ltb-false v.rev.main c e in
        let same : v.rev.main ≡ c = omega arith in
        ap (λ r. is_superseded vs r v) (sym same) ∙ not-itself vs v rising i

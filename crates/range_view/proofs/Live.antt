-- The live keys of a range.
use Rattle.std.proofs.Common.{◌≡◌, ℕ, List, [], ◌∷◌, true, length, nat_eq, refl, arith}
use Rattle.std.proofs.lemmas.Bool.Decides.{nat_tests}
use Rattle.kv_model.specs.declared.version.Rev.{Rev}
use Rattle.kv_model.specs.declared.version.Version.{Version}
use Rattle.kv_model.specs.declared.version.KeyRange.{KeyRange}
use Rattle.kv_model.specs.Keys.{one_key}
use Rattle.kv_model.specs.Ranges.{live}
use Rattle.store_laws.proofs.DeleteLaws.{live-ascends}
use Rattle.range_view.specs.Selecting.{AreByKey}

-- a range without an end is that of its key
empty-only : (k e : List ℕ) → nat_eq (length e) 0 ≡ true → one_key k ≡ record { key = k; end = e }
empty-only k [] h = refl
empty-only k (x ∷ xs) h = absurd (grind (arith, nat_tests))

pub only_key : (r : KeyRange) → nat_eq (length r.end) 0 ≡ true → one_key r.key ≡ r
only_key r h = empty-only r.key r.end h

-- the live keys of a range, each once and ascending
pub live-by_key : (vs : List Version) (p : Rev) (r : KeyRange) → AreByKey (live vs p r)
live-by_key = live-ascends

-- Stretches of keys, and how far a walk along them has come.
use Rattle.std.specs.Prelude.{◌≡◌, ℕ, List, ◌++◌, Bool, true, ◌&&◌, Option, None, Some, ⊤}
use Rattle.std.specs.Borrow.{Bor}
use Rattle.kv_model.specs.Keys.{key_lt, key_le}
use Rattle.kv_model.specs.History.{KeyValue}
use Rattle.swept_ranges.specs.declared.stretch.Stretch.{Stretch}
use Rattle.swept_ranges.specs.declared.swept.Ahead.{Ahead}
use Rattle.swept_ranges.specs.declared.swept.Ahead.TheVariants.{Covered, Until, Gap, Open}
use Rattle.swept_ranges.specs.declared.swept.Walked.{Walked}
use Rattle.swept_ranges.specs.declared.swept.Walked.TheVariants.{On, Done, Lost}
use Rattle.swept_ranges.specs.Swept.{of_keys, PassesNone, AreBut}

-- ---- stretches

-- the key comes before the end, if there is one
abbrev pub is_below : Option (Bor (List ℕ)) → List ℕ → Bool
is_below None k = true
is_below (Some to) k = key_lt k to.now

-- the stretch has the key
abbrev pub has : Stretch → List ℕ → Bool
has s k = key_le s.from.now k && is_below s.to k

-- ---- what lies ahead

-- what lies ahead from a key on
abbrev pub IsAhead : (List ℕ → Bool) → List ℕ → Ahead → Type 0
IsAhead c from Covered = (k : List ℕ) → key_le from k ≡ true → c k ≡ true
IsAhead c from (Until to) = (key_le from to.now ≡ true)
    × ((k : List ℕ) → key_le from k ≡ true → key_lt k to.now ≡ true → c k ≡ true)
IsAhead c from (Gap to) = key_le from to.now ≡ true
IsAhead c from Open = ⊤

-- what a range covers that goes on to this end
abbrev pub covered_up_to : Option (Bor (List ℕ)) → Ahead
covered_up_to None = Covered
covered_up_to (Some to) = Until to

-- ---- walks

-- these and those from a key on behind them lack only what is covered
abbrev pub AreButFrom : (List ℕ → Bool) → List ℕ → List KeyValue → List KeyValue → Type 0
AreButFrom c from xs ys = (f : List ℕ → Bool) → PassesNone c f ys
    → of_keys f xs ++ of_keys f (of_keys (key_le from) ys) ≡ of_keys f ys

-- how far a walk has come that began at a key
abbrev pub IsWalked : (List ℕ → Bool) → List ℕ → List KeyValue → List KeyValue → Walked → Type 0
IsWalked c start xs ys (On next) = (key_le start next.now ≡ true) × AreButFrom c next.now xs ys
IsWalked c start xs ys Done = AreBut c xs ys
IsWalked c start xs ys Lost = ⊤

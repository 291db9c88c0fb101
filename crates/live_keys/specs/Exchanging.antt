-- A part of a list is exchanged.
use Rattle.std.specs.Prelude.{◌≡◌, ℕ, List, ◌++◌, take, drop, true}
use Rattle.std.specs.declared.cmp.Ordering.TheVariants.{Less}
use Rattle.std.specs.List.{AllByRecursion}
use Rattle.kv_model.specs.declared.version.KeyRange.{KeyRange}
use Rattle.kv_model.specs.History.{KeyValue}
use Rattle.kv_model.specs.Keys.{in_range, key_cmp}
use Rattle.live_keys.specs.declared.part.Part.{Part}

-- these stand in the place of a part
abbrev pub exchanged : {X : Type 0} → Part → List X → List X → List X
exchanged p ys xs = take p.from xs ++ ys ++ drop p.to xs

-- each key of the range is behind this one
abbrev pub IsBefore : KeyRange → KeyValue → Type 0
IsBefore r kv = (k : List ℕ) → in_range r k ≡ true → key_cmp kv.key k ≡ Less

-- each key of the range is before this one
abbrev pub IsBehind : KeyRange → KeyValue → Type 0
IsBehind r kv = (k : List ℕ) → in_range r k ≡ true → key_cmp k kv.key ≡ Less

-- the part stands where the range does: all before it are before the range, and all behind it are behind the range
pub record Stands (r : KeyRange) (p : Part) (kvs : List KeyValue) : Type 0 where
  pub before : AllByRecursion (IsBefore r) (take p.from kvs)
  pub behind : AllByRecursion (IsBehind r) (drop p.to kvs)

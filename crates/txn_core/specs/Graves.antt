-- The set of the keys that are deleted.
use Rattle.std.specs.Prelude.{ℕ, List, Bool}
use Rattle.std.specs.List.{list_any}
use Rattle.std.specs.Ordering.{is_eq}
use Rattle.std.specs.Borrow.{Bor}
use Rattle.std.specs.BTreeSet.{BTreeSet}
use Rattle.kv_model.specs.Keys.{key_cmp}

-- the key is one of the set
abbrev pub has_key : List ℕ → BTreeSet (Bor (List ℕ)) → Bool
has_key k s = list_any (λ l. is_eq (key_cmp k l.now)) s.keys

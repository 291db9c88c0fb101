-- What the program lists of a row, as plain data.
use Rattle.std.specs.Prelude.{ℕ, List, map}
use Rattle.std.specs.Ordering.{is_lt}
use Rattle.std.specs.List.Sorted.{IsSortedBy}
use denote.Ref.{Bor}
use Rattle.kv_model.specs.Keys.{key_cmp}
use Rattle.kv_model.specs.Txns.{Touch}
use Rattle.txn_core.specs.declared.touched.Touched.{Touched}
use Rattle.txn_core.specs.declared.touched.Touched.TheVariants.{Put, Deleted}

abbrev pub touch_view : Touched → Touch
touch_view (Put k) = Touch.one k.now
touch_view (Deleted r) = Touch.each r.now

-- keys that are lent
abbrev pub keys_view : List (Bor (List ℕ)) → List (List ℕ)
keys_view = map (λ k. k.now)

-- they ascend, and may be equal
abbrev pub AreSorted : List (Bor (List ℕ)) → Type 0
AreSorted = IsSortedBy (λ a b. is_lt (key_cmp a.now b.now))

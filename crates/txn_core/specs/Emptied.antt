-- Ranges of which no key is live any more, as the answers of a transaction are read.
use Rattle.std.specs.Prelude.{◌≡◌, ℕ, ◌≤◌, List, [], ◌∷◌, filter, true, if◌then◌else◌, None, MatchOption, ⊤, nat_le}
use Rattle.std.specs.List.{AllByRecursion}
use Rattle.kv_model.specs.declared.version.Version.{Version}
use Rattle.kv_model.specs.declared.version.KeyRange.{KeyRange}
use Rattle.kv_model.specs.History.{is_tombstone, value_at}
use Rattle.kv_model.specs.Keys.{in_range}
use Rattle.kv_model.specs.Txns.{Touch, place_before}
use Rattle.txn_core.specs.declared.emptied.Emptied.{Emptied}
use Rattle.swept_ranges.specs.Swept.{covers}
use Rattle.txn_core.specs.Touching.{count_touched}
use Rattle.txn_core.specs.Views.{keys_view, AreSorted}

-- the keys that versions put
abbrev pub put_keys : List Version → List (List ℕ)
put_keys [] = []
put_keys (v ∷ vs) = if is_tombstone v.body then put_keys vs else v.key ∷ put_keys vs

-- and those of a main revision on
abbrev pub put_from : ℕ → List Version → List (List ℕ)
put_from main vs = put_keys (filter (λ v. nat_le main v.rev.main) vs)

-- none of those is in the range
abbrev pub PutsNone : List Version → ℕ → KeyRange → Type 0
PutsNone vs main r = AllByRecursion (λ v. nat_le main v.rev.main ≡ true → in_range r v.key ≡ true → is_tombstone v.body ≡ true) vs

-- of no key of the ranges anything is seen at the changes from a number on; the keys that are put are known, or not yet
pub record AreEmptied (vs : List Version) (main sub : ℕ) (e : Emptied) : Type 0 where
  pub puts : MatchOption e.puts ⊤ (λ ks. AreSorted ks.items
      × ((t : Touch) → count_touched t (keys_view ks.items) ≡ count_touched t (put_from main vs)))
  pub none : (k : List ℕ) → covers e.ranges.items k ≡ true → (s : ℕ) → sub ≤ s → value_at vs (place_before main s) k ≡ None

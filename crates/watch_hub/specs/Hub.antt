-- The watches of a store, and what befalls them.
use Rattle.std.specs.Prelude.{ℕ, ◌+◌, ◌<◌, ⊤, ℤ, List, [], ◌∷◌, ◌++◌, filter, map, not, ◌==◌, ◌&&◌}
use Rattle.std.specs.Prelude.{nat_le, nat_lt, Bool}
use Rattle.std.specs.Prelude.{Option, find, if◌then◌else◌}
use Rattle.std.specs.List.{AllByRecursion}
use Rattle.kv_model.specs.declared.version.Version.{Version}
use Rattle.kv_model.specs.declared.call.Watched.{Watched}
use Rattle.kv_model.specs.Watches.{matches}
use Rattle.store_laws.specs.Stands.{Store, Tracked, first_main_of, ahead_of}
use Rattle.kv_model.specs.Step.{start_of, watched_range}
use Rattle.range_view.specs.Stored.{Stored}

-- the watches that stand, in the order in which they were made, and how many were made so far
pub record Hub : Type 0 where
  pub watches : List Tracked
  pub made : ℕ

-- the store that keeps these versions and has these watches
abbrev pub store_with : Stored → Hub → Store
store_with s h = record {
  versions = s.versions;
  revision = s.revision;
  compacted = s.compacted;
  leases = [];
  clock = 0;
  watches = h.watches;
  made = h.made;
}

abbrev pub has_number : ℕ → Tracked → Bool
has_number n t = t.number == n

abbrev pub tracked_at : List Tracked → ℕ → Option Tracked
tracked_at ts n = find (has_number n) ts

abbrev pub without_tracked : ℕ → List Tracked → List Tracked
without_tracked n ts = filter (λ t. not (has_number n t)) ts

-- the first version from a revision on that a watch matches
abbrev pub first_from : List Version → ℕ → Watched → Option ℕ
first_from vs next w = first_main_of (filter (λ v. nat_le next v.rev.main && matches w v) vs)

-- a watch that was told of all up to a revision: it waits for the first match behind it
abbrev pub told_to : List Version → ℕ → ℕ → Tracked → Tracked
told_to vs now last t = record t { first = first_from vs (last + 1) t.watched; ahead = ahead_of now (last + 1) }

-- the watch of this number was told of all up to a revision
abbrev pub advanced_to : List Version → ℕ → ℕ → ℕ → List Tracked → List Tracked
advanced_to vs now n last ts = map (λ t. if has_number n t then told_to vs now last t else t) ts

-- the numbers ascend, so no two are the same
abbrev pub NumbersAscend : List Tracked → Type 0
NumbersAscend [] = ⊤
NumbersAscend (t ∷ ts) = AllByRecursion (λ u. t.number < u.number) ts × NumbersAscend ts

-- what a delivery needs of a watch
pub record PendingWatch : Type 0 where
  pub id : ℤ
  pub watched : Watched
  pub late : Bool
  pub first : Option ℕ

abbrev pub pending_of : Tracked → PendingWatch
pending_of t = record { id = t.id; watched = t.watched; late = t.late; first = t.first }

-- one watch more
abbrev pub with_watch : Hub → Tracked → Hub
with_watch h t = record h { watches = h.watches ++ t ∷ []; made = h.made + 1 }

-- the watch that is made of what is kept, under a number
abbrev pub entry_made : Stored → Watched → ℤ → ℤ → ℕ → Tracked
entry_made s watched start id number =
    let next : ℕ = start_of s.revision start in
    let looked : Watched = record watched { range = watched_range watched.range } in
    record {
      number = number;
      id = id;
      watched = looked;
      late = nat_lt next s.compacted;
      first = first_from s.versions next looked;
      ahead = ahead_of s.revision next;
    }

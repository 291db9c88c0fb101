-- Watches at the places of a slab, by number.
use Rattle.std.specs.Prelude.{◌≡◌, ℕ, suc, ◌<◌, ◌≤◌, pos, List, [], ◌∷◌, length, map, Bool, true, false, ◌==◌, Option, None}
use Rattle.std.specs.Prelude.{Some, is_some}
use Rattle.std.specs.Prelude.{option_map, option_and_then, unwrap_or, if◌then◌else◌, ⊤}
use Rattle.std.specs.List.{AllByRecursion}
use Rattle.slab.specs.Slab.{Slab, get, slab_len}
use Rattle.kv_model.specs.Watches.{plain_watch}
use Rattle.store_laws.specs.Stands.{Tracked}
use Rattle.watch_hub.specs.declared.entry.Entry.{Entry}
use Rattle.watch_hub.specs.declared.entries.Place.{Place}
use Rattle.watch_hub.specs.declared.guards.Guard.{Guard}
use Rattle.watch_hub.specs.Guards.{range_at}

abbrev pub tracked_of : Entry → Tracked
tracked_of e = record {
  number = e.number;
  id = e.id;
  watched = e.watched;
  late = e.late;
  first = e.first;
  ahead = e.ahead;
}

-- the watch that stands under a key of the slab
abbrev pub seen_in : Slab Entry → ℕ → Option Tracked
seen_in s key = option_map tracked_of (get s key)

-- what stands under no key: no list of watches comes to it
abbrev pub no_watch : Tracked
no_watch = record { number = 0; id = pos 0; watched = plain_watch []; late = false; first = None; ahead = None }

-- the watches at these places, in order
abbrev pub listed : (ℕ → Option Tracked) → List Place → List Tracked
listed seen ps = map (λ p. unwrap_or (seen p.key) no_watch) ps

-- numbers ascend
abbrev pub AreAscending : List Place → Type 0
AreAscending [] = ⊤
AreAscending (p ∷ ps) = AllByRecursion (λ q. p.number < q.number) ps × AreAscending ps

-- numbers ascend, and each place has the watch of its number
pub record ArePlaced (seen : ℕ → Option Tracked) (ps : List Place) : Type 0 where
  pub ascending : AreAscending ps
  pub present : AllByRecursion (λ p. option_map (λ t. t.number) (seen p.key) ≡ Some p.number) ps

-- the range that the guards have at a place is that of the watch there: none where no watch is
abbrev pub AreGuarded : (ℕ → Option Tracked) → List Guard → Type 0
AreGuarded seen gs = (place : ℕ) → range_at place gs ≡ option_map (λ t. t.watched.range) (seen place)

-- no watch waits for a revision above the next one
abbrev pub AreReached : (ℕ → Option Tracked) → Type 0
AreReached seen = (place : ℕ) → option_and_then (λ t. t.ahead) (seen place) ≡ None

-- some watch does
abbrev pub IsAnyAhead : (ℕ → Option Tracked) → Type 0
IsAnyAhead seen = (place : ℕ) × (is_some (option_and_then (λ t. t.ahead) (seen place)) ≡ true)

-- the places have the watches of their numbers, the slab has no watch beside them, and the guards have their ranges
pub record AreAll (s : Slab Entry) (ps : List Place) (gs : List Guard) (waiting : Bool) : Type 0 where
  pub placed : ArePlaced (seen_in s) ps
  pub count : slab_len s ≡ length ps
  pub guarded : AreGuarded (seen_in s) gs
  pub reached : waiting ≡ false → AreReached (seen_in s)

-- the index of the place with a number, and its key
abbrev pub index_of : ℕ → List Place → Option ℕ
index_of n [] = None
index_of n (p ∷ ps) = if p.number == n then Some 0 else option_map suc (index_of n ps)

abbrev pub key_of : ℕ → List Place → Option ℕ
key_of n [] = None
key_of n (p ∷ ps) = if p.number == n then Some p.key else key_of n ps

-- no watch has a number above this
abbrev pub AreUpTo : ℕ → List Tracked → Type 0
AreUpTo n ts = AllByRecursion (λ t. t.number ≤ n) ts

-- The rule over what is shown, and over what readers and the writer know: which list it is of.
use Rattle.std.specs.Prelude.{◌≡◌, ℕ, suc, List, Option, None, Some, ⊤}
use mathlib.Core.Option.{some}
use lib.ListN.{get_elem?}
use Rattle.logbook.specs.Pages.{Book}
use Rattle.store_laws.specs.Snapshots.{Stored, store_of}
use Rattle.event_book.specs.Publishing.{published_by}
use Rattle.event_book.specs.Rules.{Beginning}
use Rattle.snapshot_feed.specs.Showing.{IsShown}
use Rattle.snapshot_feed.specs.declared.entry.ReadTables.{ReadTables}
use Rattle.snapshot_feed.specs.declared.rule.Sight.{Sight}

-- the tables are those that the operations make which readers are told of the front's events
abbrev pub Shows : Stored → Beginning → Type 0
Shows t f = t ≡ store_of (published_by f.list)

-- and the front is one that they may be shown
abbrev pub ShowsWell : Stored → Beginning → Type 0
ShowsWell t f = Shows t f × IsShown f.list

-- what is known, if anything, is known of this list
abbrev pub MayBeOf : Book → Option Beginning → Type 0
MayBeOf b None = ⊤
MayBeOf b (Some f) = f.book ≡ b

-- something is known, of this list
abbrev pub IsOf : Book → Option Beginning → Type 0
IsOf b None = ⊥
IsOf b (Some f) = f.book ≡ b

abbrev pub Keeps : ReadTables → List Sight → Type 0
Keeps t views = ShowsWell t.tables t.front
    × ((seat : ℕ) (v : Sight) → get_elem? views seat ≡ some v → MayBeOf t.front.book v.front)

-- one look more, at which this front was shown
abbrev pub looked_at : Beginning → Sight → Sight
looked_at f v = record { front = Some f; looks = suc v.looks }

-- an entry or a publication: the tables shown after it are those of their front, which is of the list that one knew of, and
-- which one has looked at then
abbrev pub SeesFront : Sight → ReadTables → ReadTables → Sight → Type 0
SeesFront v x y w = ShowsWell y.tables y.front × MayBeOf y.front.book v.front × (w ≡ looked_at y.front v)

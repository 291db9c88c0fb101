use Rattle.std.proofs.Common.{◌≡◌, length, map}
use Rattle.store_laws.specs.Stands.{noted}
use Rattle.range_view.specs.Stored.{AreOf}
use Rattle.request_core.proofs.store.appending.note_all.Given as goal

-- with the versions that are left, each watch notes what it notes of all of them
abbrev pub invariant-loop-slice : goal.invariant-loop-slice
invariant-loop-slice l = record {
  newest : AreOf l.now l.versions;
  made : l.hub.made ≡ l.initial.hub.made;
  watches : map (noted l.versions l.now) l.hub.watches ≡ map (noted l.fn.versions l.now) l.initial.hub.watches;
}

abbrev pub decreases-loop-slice : goal.decreases-loop-slice
decreases-loop-slice l = length l.versions

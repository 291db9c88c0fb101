use Rattle.std.proofs.Common.{◌≡◌, ◌<◌, false, true, length, slice_index_or, ℕ}
use Rattle.event_book.specs.Events.{events_by}
use Rattle.event_book.proofs.listing.Listing.known_by.Given as goal

abbrev pub invariant-loop-number : goal.invariant-loop-number
invariant-loop-number g l = (n : ℕ) → n < l.number → 0 < length (events_by n l.self) → slice_index_or l.marks n false ≡ true

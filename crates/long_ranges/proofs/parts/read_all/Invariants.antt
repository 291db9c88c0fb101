use Rattle.std.specs.Prelude.{◌≡◌, ℕ, List, []}
use mathlib.Core.List.{IsPrefix}
use Rattle.kv_model.specs.declared.ids.Ids.{Ids}
use Rattle.event_book.specs.Events.{Entry}
use Rattle.engine_lock.specs.Locked.{left}
use Rattle.long_ranges.specs.Parts.{HasBegun, IsGathered, IsOfSeveral, SoFar}
use Rattle.long_ranges.proofs.parts.read_all.Given as goal

abbrev pub invariant-loop : goal.invariant-loop
invariant-loop g l =
    IsPrefix l.fn.client.reader.known l.client.reader.known
    × (l.client ≡ left (record l.fn.client { reader = l.client.reader }))
    × (l.client.reader.book ≡ l.fn.client.reader.book)
    × IsOfSeveral l.left
    × ((front : List Entry) → IsPrefix front l.fn.client.reader.known → HasBegun front l.query l.begun → (ids : Ids) → (now count : ℕ)
    → IsGathered ids now count l.query [] l.fn.gathered
    → SoFar front l.begun.revision l.query.range (λ seen. IsGathered ids now count l.query seen l.gathered) l.left)

use Rattle.std.proofs.Common.{take, map, filter_map}
use Rattle.key_index.specs.Agrees.{read_entry}
use Rattle.key_index.specs.Lent.{entry_of}
use Rattle.range_view.specs.Selecting.{IsFound}
use Rattle.range_view.proofs.view.collect.Given as goal

abbrev pub invariant-loop-key : goal.invariant-loop-key
invariant-loop-key l = IsFound l.query l.found (filter_map (read_entry l.table l.place) (map entry_of (take l.key-index l.keys)))

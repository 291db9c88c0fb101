use Rattle.std.specs.Prelude.{false}
use Rattle.engine_tests.proofs.written.run_unrecorded.Given as goal

abbrev pub ghosts-unrecorded-L-EngineName : goal.ghosts-unrecorded-L-EngineName
ghosts-unrecorded-L-EngineName g a = record { recorded = false }

abbrev pub ghosts-unrecorded-L-ListName : goal.ghosts-unrecorded-L-ListName
ghosts-unrecorded-L-ListName g a = record { book = a.opening.book; ids = record { cluster = 1; member = 1 } }

abbrev pub ghosts-unrecorded-L-Ledger : goal.ghosts-unrecorded-L-Ledger
ghosts-unrecorded-L-Ledger g a = record { name = a.opening.name; parts = a.opening.parts }

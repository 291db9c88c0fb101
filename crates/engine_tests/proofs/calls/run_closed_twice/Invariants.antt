use Rattle.std.specs.Prelude.{false}
use Rattle.engine_tests.proofs.calls.run_closed_twice.Given as goal

abbrev pub ghosts-closed_twice-L-EngineName : goal.ghosts-closed_twice-L-EngineName
ghosts-closed_twice-L-EngineName g a = record { recorded = false }

abbrev pub ghosts-closed_twice-L-ListName : goal.ghosts-closed_twice-L-ListName
ghosts-closed_twice-L-ListName g a = record { book = a.opening.book; ids = record { cluster = 1; member = 1 } }

abbrev pub ghosts-closed_twice-L-Ledger : goal.ghosts-closed_twice-L-Ledger
ghosts-closed_twice-L-Ledger g a = record { name = a.opening.name; parts = a.opening.parts }

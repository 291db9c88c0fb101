use Rattle.std.specs.Prelude.{false}
use Rattle.engine_tests.proofs.calls.run_made.Given as goal

abbrev pub ghosts-made-L-EngineName : goal.ghosts-made-L-EngineName
ghosts-made-L-EngineName g a = record { recorded = false }

abbrev pub ghosts-made-L-ListName : goal.ghosts-made-L-ListName
ghosts-made-L-ListName g a = record { book = a.opening.book; ids = record { cluster = 1; member = 1 } }

abbrev pub ghosts-made-L-Ledger : goal.ghosts-made-L-Ledger
ghosts-made-L-Ledger g a = record { name = a.opening.name; parts = a.opening.parts }

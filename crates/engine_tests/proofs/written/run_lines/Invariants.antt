use Rattle.std.specs.Prelude.{true}
use Rattle.engine_tests.proofs.written.run_lines.Given as goal

abbrev pub ghosts-lines-L-EngineName : goal.ghosts-lines-L-EngineName
ghosts-lines-L-EngineName g a = record { recorded = true }

abbrev pub ghosts-lines-L-ListName : goal.ghosts-lines-L-ListName
ghosts-lines-L-ListName g a = record { book = a.opening.book; ids = record { cluster = 1; member = 1 } }

abbrev pub ghosts-lines-L-Ledger : goal.ghosts-lines-L-Ledger
ghosts-lines-L-Ledger g a = record { name = a.opening.name; parts = a.opening.parts }

use Rattle.std.specs.Prelude.{false}
use Rattle.peer_tests.proofs.sides.first_left.Given as goal

abbrev pub ghosts-left-L-EngineName : goal.ghosts-left-L-EngineName
ghosts-left-L-EngineName g a = record { recorded = false }

abbrev pub ghosts-left-L-ListName : goal.ghosts-left-L-ListName
ghosts-left-L-ListName g a = record { book = a.opening.book; ids = record { cluster = 1; member = 1 } }

abbrev pub ghosts-left-L-Ledger : goal.ghosts-left-L-Ledger
ghosts-left-L-Ledger g a = record { name = a.opening.name; parts = a.opening.parts }

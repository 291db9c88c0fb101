use Rattle.std.specs.Prelude.{false}
use Rattle.peer_tests.proofs.sides.by_engine.Given as goal

abbrev pub ghosts-worked-L-EngineName : goal.ghosts-worked-L-EngineName
ghosts-worked-L-EngineName g a = record { recorded = false }

abbrev pub ghosts-worked-L-ListName : goal.ghosts-worked-L-ListName
ghosts-worked-L-ListName g a = record { book = a.opening.book; ids = record { cluster = 1; member = 1 } }

abbrev pub ghosts-worked-L-Ledger : goal.ghosts-worked-L-Ledger
ghosts-worked-L-Ledger g a = record { name = a.opening.name; parts = a.opening.parts }

use Rattle.std.specs.Prelude.{false}
use Rattle.peer_tests.proofs.visits.comes_to.Given as goal

abbrev pub ghosts-is_answered-L-EngineName : goal.ghosts-is_answered-L-EngineName
ghosts-is_answered-L-EngineName g a = record { recorded = false }

abbrev pub ghosts-is_answered-L-ListName : goal.ghosts-is_answered-L-ListName
ghosts-is_answered-L-ListName g a = record { book = a.opening.book; ids = record { cluster = 1; member = 1 } }

abbrev pub ghosts-is_answered-L-Ledger : goal.ghosts-is_answered-L-Ledger
ghosts-is_answered-L-Ledger g a = record { name = a.opening.name; parts = a.opening.parts }

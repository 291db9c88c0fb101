use Rattle.std.specs.Prelude.{false}
use Rattle.server_tests.proofs.ends.run_ended.Given as goal

abbrev pub ghosts-ended-L-EngineName : goal.ghosts-ended-L-EngineName
ghosts-ended-L-EngineName g a = record { recorded = false }

abbrev pub ghosts-ended-L-ListName : goal.ghosts-ended-L-ListName
ghosts-ended-L-ListName g a = record { book = a.opening.book; ids = record { cluster = 1; member = 1 } }

abbrev pub ghosts-ended-L-Ledger : goal.ghosts-ended-L-Ledger
ghosts-ended-L-Ledger g a = record { name = a.opening.name; parts = a.opening.parts }

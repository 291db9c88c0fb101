use Rattle.std.specs.Prelude.{false}
use Rattle.server_tests.proofs.trimmed.run_served.Given as goal

abbrev pub ghosts-served-L-EngineName : goal.ghosts-served-L-EngineName
ghosts-served-L-EngineName g a = record { recorded = false }

abbrev pub ghosts-served-L-ListName : goal.ghosts-served-L-ListName
ghosts-served-L-ListName g a = record { book = a.opening.book; ids = record { cluster = 1; member = 1 } }

abbrev pub ghosts-served-L-Ledger : goal.ghosts-served-L-Ledger
ghosts-served-L-Ledger g a = record { name = a.opening.name; parts = a.opening.parts }

use Rattle.std.specs.Prelude.{false}
use Rattle.engine_tests.proofs.calls.run_each_call.Given as goal

abbrev pub ghosts-each_call-L-EngineName : goal.ghosts-each_call-L-EngineName
ghosts-each_call-L-EngineName g a = record { recorded = false }

abbrev pub ghosts-each_call-L-ListName : goal.ghosts-each_call-L-ListName
ghosts-each_call-L-ListName g a = record { book = a.opening.book; ids = record { cluster = 1; member = 1 } }

abbrev pub ghosts-each_call-L-Ledger : goal.ghosts-each_call-L-Ledger
ghosts-each_call-L-Ledger g a = record { name = a.opening.name; parts = a.opening.parts }

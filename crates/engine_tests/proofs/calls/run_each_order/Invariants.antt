use Rattle.std.specs.Prelude.{false}
use Rattle.engine_tests.proofs.calls.run_each_order.Given as goal

abbrev pub ghosts-each_order-L-EngineName : goal.ghosts-each_order-L-EngineName
ghosts-each_order-L-EngineName g a = record { recorded = false }

abbrev pub ghosts-each_order-L-ListName : goal.ghosts-each_order-L-ListName
ghosts-each_order-L-ListName g a = record { book = a.opening.book; ids = record { cluster = 1; member = 1 } }

abbrev pub ghosts-each_order-L-Ledger : goal.ghosts-each_order-L-Ledger
ghosts-each_order-L-Ledger g a = record { name = a.opening.name; parts = a.opening.parts }

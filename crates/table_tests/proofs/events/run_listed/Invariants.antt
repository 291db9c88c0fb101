use Rattle.table_tests.proofs.events.run_listed.Given as goal

abbrev pub ghosts-listed-L-ListName : goal.ghosts-listed-L-ListName
ghosts-listed-L-ListName g a = record { book = a.opening.book; ids = record { cluster = 0; member = 0 } }

abbrev pub ghosts-listed-L-Ledger : goal.ghosts-listed-L-Ledger
ghosts-listed-L-Ledger g a = record { name = a.opening.name; parts = a.opening.parts }

use Rattle.table_tests.proofs.events.run_holders.Given as goal

abbrev pub ghosts-holders-L-ListName : goal.ghosts-holders-L-ListName
ghosts-holders-L-ListName a = record { book = a.opening.book; ids = record { cluster = 0; member = 0 } }

abbrev pub ghosts-holders-L-Ledger : goal.ghosts-holders-L-Ledger
ghosts-holders-L-Ledger a = record { name = a.opening.name; parts = a.opening.parts }

use Rattle.command_line.specs.Serving.{ids_in}
use Rattle.command_line.proofs.serving.run_server.Given as goal

abbrev pub ghosts-closed_revision-L-EngineName : goal.ghosts-closed_revision-L-EngineName
ghosts-closed_revision-L-EngineName g a = record { recorded = a.is_recorded }

abbrev pub ghosts-closed_revision-L-ListName : goal.ghosts-closed_revision-L-ListName
ghosts-closed_revision-L-ListName g a = record { book = a.opening.book; ids = ids_in a.serve.now }

abbrev pub ghosts-closed_revision-L-Ledger : goal.ghosts-closed_revision-L-Ledger
ghosts-closed_revision-L-Ledger g a = record { name = a.opening.name; parts = a.opening.parts }

use Rattle.command_line.specs.Serving.{ids_in}
use Rattle.command_line.proofs.control.run_controlled.Given as goal

abbrev pub ghosts-controlled_revision-L-EngineName : goal.ghosts-controlled_revision-L-EngineName
ghosts-controlled_revision-L-EngineName g a = record { recorded = a.is_recorded }

abbrev pub ghosts-controlled_revision-L-ListName : goal.ghosts-controlled_revision-L-ListName
ghosts-controlled_revision-L-ListName g a = record { book = a.opening.book; ids = ids_in a.serve.now }

abbrev pub ghosts-controlled_revision-L-Ledger : goal.ghosts-controlled_revision-L-Ledger
ghosts-controlled_revision-L-Ledger g a = record { name = a.opening.name; parts = a.opening.parts }

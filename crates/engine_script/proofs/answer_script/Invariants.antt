use Rattle.std.specs.Prelude.{false}
use Rattle.engine_script.proofs.answer_script.Given as goal

abbrev pub ghosts-answer_on-L-EngineName : goal.ghosts-answer_on-L-EngineName
ghosts-answer_on-L-EngineName g a = record { recorded = false }

abbrev pub ghosts-answer_on-L-ListName : goal.ghosts-answer_on-L-ListName
ghosts-answer_on-L-ListName g a = record { book = a.opening.book; ids = record { cluster = 1; member = 1 } }

abbrev pub ghosts-answer_on-L-Ledger : goal.ghosts-answer_on-L-Ledger
ghosts-answer_on-L-Ledger g a = record { name = a.opening.name; parts = a.opening.parts }

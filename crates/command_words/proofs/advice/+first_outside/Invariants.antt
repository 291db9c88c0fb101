use Rattle.std.proofs.Common.{length}
use Rattle.command_words.proofs.advice.+first_outside.Given as goal

abbrev pub decreases-first_outside : goal.decreases-first_outside
decreases-first_outside l = length l.words.now

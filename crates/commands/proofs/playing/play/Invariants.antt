use Rattle.std.proofs.Common.{◌+◌, ◌≤◌, length}
use Rattle.commands.specs.Script.{line_events}
use Rattle.commands.proofs.Played.{Played}
use Rattle.commands.proofs.playing.play.Given as goal

-- the lines so far were played, each of a byte at least
abbrev pub invariant-loop-rest : goal.invariant-loop-rest
invariant-loop-rest g l = Played (g.P.Playing.Makes l.fn.plays) (line_events l.script) (line_events l.rest) l.number l.fn.state l.state
    × (l.number + length l.rest ≤ length l.script)

abbrev pub decreases-loop-rest : goal.decreases-loop-rest
decreases-loop-rest g l = length l.rest

use Rattle.std.proofs.Common.{◌≤◌, ◌-◌, max}
use Rattle.std.specs.Io.KnownBytes.{Consumes}
use Rattle.commands.specs.Script.{most_reads}
use Rattle.commands.proofs.input.read_input.Given as goal

abbrev pub invariant-loop-buffer : goal.invariant-loop-buffer
invariant-loop-buffer g l = Consumes (g.R.Read.remaining l.fn.r.reader) (g.R.Read.remaining l.r.reader) l.script.items × (l.r.reads ≤ max l.fn.r.reads most_reads)

abbrev pub decreases-loop-buffer : goal.decreases-loop-buffer
decreases-loop-buffer g l = most_reads - l.r.reads

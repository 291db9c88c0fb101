-- The lines own plain memory alone, and what clauses see of the texts that were taken owns nothing: so they go from thread to thread.
use denote.RattleType.{RattleType}
use denote.Param.Send.{IsSend, sendable}
use Rattle.std.specs.contracts.snapshot.Snapshot as Snapshot
use Rattle.std.proofs.Crossing.{crosses}
use Rattle.recording.specs.contracts.lines.Lines as Lines
use Rattle.recording.specs.contracts.taken.Taken as Taken
use Rattle.recording.proofs.taken.Taken.TheLaws.TheKnot as taken

snapshot_send : (Y : RattleType) → IsSend (Snapshot.the_row Y)
snapshot_send Y = search crosses

taken_send : IsSend Taken.the_row
taken_send = taken.send-Taken (λ Y _. snapshot_send Y) (search (sendable, crosses))

pub lines_send : IsSend Lines.the_row
lines_send = search (sendable, crosses, taken_send) depth 40

use Rattle.std.specs.Io.{ReadsAtMost}
use Rattle.std.specs.Io.KnownBytes.{ReadConsumes}
use Rattle.http_peer.proofs.socket.read_once.Given as goal

abbrev pub invariant-loop : goal.invariant-loop
invariant-loop g l = ReadsAtMost l.came l.buf × ReadConsumes (g.R.Read.remaining l.fn.r) (g.R.Read.remaining l.r) l.came l.buf

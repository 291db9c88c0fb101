use Rattle.std.specs.Io.{WritesAtMost}
use Rattle.std.specs.Io.KnownBytes.{WriteAppends}
use Rattle.http_peer.proofs.socket.write_once.Given as goal

abbrev pub invariant-loop : goal.invariant-loop
invariant-loop g l = WritesAtMost l.gone l.buf × WriteAppends (g.W.Write.contents l.fn.w) (g.W.Write.contents l.w) l.gone l.buf

use Rattle.std.proofs.Common.{◌∙◌, sym}
use Rattle.watch_streams.specs.Turns.{SentIs}
use Rattle.watch_streams.proofs.Exact.{unsent_is}
use Rattle.watch_streams.proofs.turning.sent.Goals as goal

pub returns-then-is_out : goal.returns-then-is_out
returns-then-is_out g c = SentIs.none (sym c.is_out.ensures ∙ c.if-is_out.true)

pub returns-in-Ok : goal.returns-in-Ok
returns-in-Ok g c = SentIs.some c.in-Ok.field-0 c.in-Ok.ensures

pub returns-in-Err : goal.returns-in-Err
returns-in-Err g c = rw c.unsent.ensures (rw c.is_stale.ensures (unsent_is c.in-Err.again c.args.line.now c.send.new.self c.in-Err.ensures))

use Rattle.std.proofs.Common.{rules, arith, ◌≡◌, ◌<◌, ◌≤◌, length, ℕ, ◌+◌, ◌-◌, take, drop, length-take, nat_lt}
use Rattle.http_reply.proofs.Cuts.{sent_more}
use Rattle.http_reply.proofs.sending.write_text.Goals as goal

pub loop-sent-preserved : goal.loop-sent-preserved
loop-sent-preserved g c = (search rules, sent_more _ _ _ _ _ _ c.loop-sent.invariant.1 c.in-Ok.ensures.bytes, search rules)

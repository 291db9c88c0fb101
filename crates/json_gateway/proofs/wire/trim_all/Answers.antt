use Rattle.std.proofs.Common.{sym, ◌∙◌}
use Rattle.json_gateway.proofs.Trims.{done_trimmed}
use Rattle.json_gateway.proofs.wire.trim_all.Goals as goal

pub returns-then-is_done : goal.returns-then-is_done
returns-then-is_done c = λ w h.
    done_trimmed c.loop.core c.trim_step.new.self c.trim_step.result c.trim_step.ensures (sym c.is_done.ensures ∙ c.if-is_done.true) w
    (c.loop.invariant w h)

use Rattle.std.proofs.Common.{sym, ◌∙◌, ap, subst, ℕ, Result, Ok}
use Rattle.http_reply.specs.declared.front.Front.{Front}
use Rattle.http_loop.specs.declared.stepping.Step.{Step}
use Rattle.http_connections.specs.Handing.{Hands}
use Rattle.http_connections.specs.Lines.{IsBehind, IsHeld}
use Rattle.http_connections.proofs.turns.stage_behind.Goals as goal

pub returns-in-Ok-Waits : goal.returns-in-Ok-Waits
returns-in-Ok-Waits g c = subst (λ (y : Result Step Front). IsBehind y c.args.is_dry c.args.serving.now.handed c.args.serving.now.revision c.held.result)
    (sym (c.in-Ok-Waits.is ∙ ap Ok c.in-Ok-Waits.field-0-is))
    (subst (λ (n : ℕ). IsHeld c.in-Ok-Waits.waiting n c.held.result) (ap (λ (s : Hands). s.revision) c.serving.view_is) c.held.ensures)

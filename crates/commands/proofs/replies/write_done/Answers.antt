use Rattle.std.proofs.Common.{Bool, sym, subst}
use Rattle.commands.specs.Replies as spec
use Rattle.commands.specs.Writes.{Writes}
use Rattle.commands.proofs.replies.write_done.Goals as goal

pub returns-else-certified : goal.returns-else-certified
returns-else-certified g c =
    subst (λ (b : Bool). Writes c.write_count-else-certified.result (g.W.Write.contents c.args.w.now)
    (g.W.Write.contents c.write_count-else-certified.new.w) (spec.done_line c.args.count b)) (sym c.if-certified.false)
    c.write_count-else-certified.ensures

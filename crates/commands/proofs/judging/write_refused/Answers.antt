-- Each line is its words, as they are written, one behind the other.
use Rattle.std.proofs.Common.{◌∷◌, [], ◌++◌, codes, sym, subst}
use Rattle.witness_core.specs.declared.fault.NeedFault.{NeedFault}
use Rattle.commands.specs.Judging.{fault_text}
use Rattle.commands.specs.Writes.{Writes}
use Rattle.commands.proofs.judging.write_refused.Goals as goal

pub returns-in-NotRising : goal.returns-in-NotRising
returns-in-NotRising g c =
    subst (λ (f : NeedFault). Writes c.write_rev.result (g.W.Write.contents c.args.w.now) (g.W.Write.contents c.write_rev.new.w)
    (codes "refused: " ++ fault_text f ++ 10 ∷ [])) (sym c.in-NotRising.is) c.write_rev.ensures

pub returns-in-DoubleKey : goal.returns-in-DoubleKey
returns-in-DoubleKey g c =
    subst (λ (f : NeedFault). Writes c.write_rev-in-DoubleKey.result (g.W.Write.contents c.args.w.now) (g.W.Write.contents c.write_rev-in-DoubleKey.new.w)
    (codes "refused: " ++ fault_text f ++ 10 ∷ [])) (sym c.in-DoubleKey.is) c.write_rev-in-DoubleKey.ensures

pub returns-in-NoNeed : goal.returns-in-NoNeed
returns-in-NoNeed g c =
    subst (λ (f : NeedFault). Writes c.write_rev-in-NoNeed.result (g.W.Write.contents c.args.w.now) (g.W.Write.contents c.write_rev-in-NoNeed.new.w)
    (codes "refused: " ++ fault_text f ++ 10 ∷ [])) (sym c.in-NoNeed.is) c.write_rev-in-NoNeed.ensures

pub returns-in-NeedUnmet : goal.returns-in-NeedUnmet
returns-in-NeedUnmet g c =
    subst (λ (f : NeedFault). Writes c.write_rev-in-NeedUnmet.result (g.W.Write.contents c.args.w.now) (g.W.Write.contents c.write_rev-in-NeedUnmet.new.w)
    (codes "refused: " ++ fault_text f ++ 10 ∷ [])) (sym c.in-NeedUnmet.is) c.write_rev-in-NeedUnmet.ensures

pub returns-in-Extra : goal.returns-in-Extra
returns-in-Extra g c =
    subst (λ (f : NeedFault). Writes c.write_bytes.result (g.W.Write.contents c.args.w.now) (g.W.Write.contents c.write_bytes.new.w)
    (codes "refused: " ++ fault_text f ++ 10 ∷ [])) (sym c.in-Extra.is) c.write_bytes.ensures.written

pub returns-in-Memory : goal.returns-in-Memory
returns-in-Memory g c =
    subst (λ (f : NeedFault). Writes c.write_bytes-in-Memory.result (g.W.Write.contents c.args.w.now) (g.W.Write.contents c.write_bytes-in-Memory.new.w)
    (codes "refused: " ++ fault_text f ++ 10 ∷ [])) (sym c.in-Memory.is) c.write_bytes-in-Memory.ensures.written

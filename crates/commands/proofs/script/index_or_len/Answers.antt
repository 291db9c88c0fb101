use Rattle.std.proofs.Common.{arith}
use Rattle.std.proofs.lemmas.Bool.{eqb-true, false_from_ne_true}
use Rattle.commands.proofs.Lines.{found_at, found_none}
use Rattle.commands.proofs.script.index_or_len.Goals as goal

pub returns-in-Some : goal.returns-in-Some
returns-in-Some c =
    let first = c.in-Some.ensures in
    found_at _ _ _ first.0.high (λ k h. false_from_ne_true _ (first.0.before k (omega arith) h)) (eqb-true _ _ first.1)

pub returns-in-None : goal.returns-in-None
returns-in-None c = found_none _ _ (λ k h. false_from_ne_true _ (c.in-None.ensures k (omega arith) h))

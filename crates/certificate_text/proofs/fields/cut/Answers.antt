use Rattle.std.proofs.Common.{arith}
use Rattle.std.proofs.lemmas.Bool.{eqb-true, false_from_ne_true}
use Rattle.certificate_text.proofs.Cuts.{cut_found, cut_none}
use Rattle.certificate_text.proofs.fields.cut.Goals as goal

pub returns-in-Some-clause-parts : goal.returns-in-Some-clause-parts
returns-in-Some-clause-parts c =
    let first = c.in-Some.ensures in
    cut_found _ _ _ first.0.high (λ k h. false_from_ne_true _ (first.0.before k (omega arith) h)) (eqb-true _ _ first.1)

pub returns-in-None-clause-parts : goal.returns-in-None-clause-parts
returns-in-None-clause-parts c = cut_none _ _ (λ k h. false_from_ne_true _ (c.in-None.ensures k (omega arith) h))

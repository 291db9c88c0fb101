use Rattle.std.proofs.Common.{false, get_or, fold, ap, sym, ◌∙◌, arith}
use Rattle.std.proofs.lemmas.List.{drop_all}
use Rattle.gateway_read.specs.Lengths.{marked}
use Rattle.gateway_read.proofs.Marks.{are_marked}
use Rattle.gateway_read.proofs.object.lengths_of.Goals as goal

pub returns : goal.returns
returns c =
    let ended = drop_all c.loop-name.name-index c.args.members.now (omega arith) in
    let done = sym (ap (fold marked c.loop-name.lengths) ended) ∙ c.loop-name.invariant in
    λ p. ap (λ lengths. get_or lengths p false) done ∙ are_marked c.args.members.now p

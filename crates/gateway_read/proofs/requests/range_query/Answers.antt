use Rattle.std.proofs.Common.{Ok, false, sym, ap, ◌∙◌, rules}
use Rattle.std.specs.Prelude.{FitsSigned}
use Rattle.std.specs.Int.{w64}
use Rattle.std.proofs.lemmas.Int.{to_z-of_z}
use Rattle.gateway_read.specs.Fields.{snake_of}
use Rattle.gateway_read.proofs.Readings.{range_query-completed}
use Rattle.gateway_read.proofs.Steps.{gives_by}
use Rattle.gateway_read.proofs.requests.range_query.Goals as goal

pub returns : goal.returns
unfolding snake_of
returns c =
    let limit : FitsSigned w64 c.in_ok-limit.limit = search rules in
    let revision : FitsSigned w64 c.in_ok-revision.revision = search rules in
    rw (range_query-completed _ c.in_ok-key.ensures.gives c.in_ok-end.ensures.gives
    (c.in_ok-limit.ensures ∙ ap Ok (sym (to_z-of_z w64 _ limit)))
    (c.in_ok-revision.ensures ∙ ap Ok (sym (to_z-of_z w64 _ revision)))
    c.in_ok-order.ensures c.in_ok-target.ensures)
    (gives_by false _ c.completed.result _ c.completed.ensures)

use Rattle.std.proofs.Common.{[], ◌∷◌, ◌++◌, Ok, ap, refl, sym, ◌∙◌, arith}
use Rattle.kv_model.specs.Requests.{filter_request}
use Rattle.gateway_read.specs.Watches.{filter_of, with_filter}
use Rattle.gateway_read.proofs.Each.{each_none, each_more, each_fails, each_done}
use Rattle.gateway_read.proofs.Steps.{fails_then, tells_fault}
use Rattle.gateway_read.proofs.Watches.{together-snoc}
use Rattle.gateway_read.proofs.watching.filters_of.Goals as goal

pub loop-value-init : goal.loop-value-init
loop-value-init c = ([], refl, each_none [] _ refl)

pub loop-value-preserved : goal.loop-value-preserved
loop-value-preserved c =
    let (front, same, left) = c.loop-value.invariant in
    let f = filter_of c.in_ok-filter.filter in (
      front ++ f ∷ [],
      c.with-filters.ensures ∙ ap (λ fs. with_filter fs f) same ∙ sym (together-snoc front f),
      each_more filter_request c.args.values.now c.loop-value.value-index _ _ f front _ _
          (omega arith) c.value-item.is c.in_ok-filter.ensures refl left,
    )

pub returns-in_err-filter : goal.returns-in_err-filter
returns-in_err-filter c =
    let (front, same, left) = c.loop-value.invariant in
    tells_fault _ c.from_residual.result _ _ c.from_residual.ensures.1 (
      fails_then _ _ _ (each_fails filter_request c.args.values.now c.loop-value.value-index _ _ _ front _
          (omega arith) c.value-item.is c.in_err-filter.ensures.0 left),
      c.in_err-filter.ensures.1,
    )

pub returns : goal.returns
returns c =
    let (front, same, left) = c.loop-value.invariant in
    rw (each_done filter_request c.args.values.now c.loop-value.value-index front _ (omega arith) left) (ap Ok (sym same))

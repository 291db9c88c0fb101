use Rattle.std.proofs.Common.{arith}
use Rattle.kv_model.specs.Requests.{compare_request}
use Rattle.gateway_read.proofs.Each.{each_none, each_more, each_fails, each_done}
use Rattle.gateway_read.proofs.Steps.{gives_fault}
use Rattle.gateway_read.proofs.transacting.compares_of.Goals as goal

pub loop-value-init : goal.loop-value-init
loop-value-init c = each_none _ _ c.in_ok-compares.ensures.items

pub loop-value-preserved : goal.loop-value-preserved
loop-value-preserved c = each_more compare_request c.args.values.now c.loop-value.value-index _ _ _ _ _ _
    (omega arith) c.value-item.is c.in_ok-compare.ensures c.in_ok-push.ensures.items c.loop-value.invariant

pub returns-in_err-compare : goal.returns-in_err-compare
returns-in_err-compare c = gives_fault _ c.from_residual-in_err-compare.result _ _ c.from_residual-in_err-compare.ensures.1
    (each_fails compare_request c.args.values.now c.loop-value.value-index _ _ _ _ _
    (omega arith) c.value-item.is c.in_err-compare.ensures c.loop-value.invariant)

pub returns : goal.returns
returns c = each_done compare_request c.args.values.now c.loop-value.value-index _ _ (omega arith) c.loop-value.invariant

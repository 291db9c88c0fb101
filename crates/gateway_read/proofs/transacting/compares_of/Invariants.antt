use Rattle.std.proofs.Common.{◌≡◌, drop}
use Rattle.gateway_read.specs.Values.{items_view}
use Rattle.kv_model.specs.Requests.{each, compare_request}
use Rattle.gateway_read.proofs.Transactions.{with_front}
use Rattle.gateway_read.proofs.transacting.compares_of.Given as goal

abbrev pub invariant-loop-value : goal.invariant-loop-value
invariant-loop-value l = with_front l.compares.items (each compare_request (items_view (drop l.value-index l.values)))
    ≡ each compare_request (items_view l.values)

use Rattle.std.proofs.Common.{◌≡◌, List, drop}
use Rattle.gateway_read.specs.Values.{items_view}
use Rattle.kv_model.specs.Requests as requests
use Rattle.gateway_read.specs.Watches.{together}
use Rattle.gateway_read.proofs.Transactions.{with_front}
use Rattle.gateway_read.proofs.watching.filters_of.Given as goal

abbrev pub invariant-loop-value : goal.invariant-loop-value
invariant-loop-value l = (front : List requests.Filter) × (l.filters ≡ together front)
    × (with_front front (requests.each requests.filter_request (items_view (drop l.value-index l.values)))
    ≡ requests.each requests.filter_request (items_view l.values))

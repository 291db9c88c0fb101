use Rattle.std.proofs.Common.{◌≡◌, ◌+◌, ◌*◌, map, drop}
use Rattle.gateway_read.specs.Values.{items_view}
use Rattle.kv_model.specs.Commands.{op_view}
use Rattle.kv_model.specs.Requests as requests
use Rattle.gateway_read.specs.Fields.{snake_of}
use Rattle.gateway_read.proofs.Transactions.{with_front}
use Rattle.gateway_read.proofs.transacting.+transacting.Given as goal

abbrev pub decreases-txn_within : goal.decreases-txn_within
decreases-txn_within l = 4 * l.depth

abbrev pub decreases-operation : goal.decreases-operation
decreases-operation l = 4 * l.depth + 1

abbrev pub decreases-branch : goal.decreases-branch
decreases-branch l = 4 * l.depth + 3

abbrev pub decreases-operations : goal.decreases-operations
decreases-operations l = 4 * l.depth + 2

abbrev pub invariant-operations-loop-value : goal.invariant-operations-loop-value
invariant-operations-loop-value l =
    let read = requests.each (requests.operation (requests.txn_request l.depth) (snake_of l.list)) in
    with_front (map op_view l.operations.items) (read (items_view (drop l.value-index l.values))) ≡ read (items_view l.values)

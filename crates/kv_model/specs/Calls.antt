-- What a client asks, as plain data: an operation list is a tree, since a transaction may hold transactions.
use Rattle.std.specs.Prelude.{ℤ, List, [], ◌∷◌, Bool}
use Rattle.kv_model.specs.declared.call.RangeQuery.{RangeQuery}
use Rattle.kv_model.specs.declared.call.PutRequest.{PutRequest}
use Rattle.kv_model.specs.declared.call.DeleteRequest.{DeleteRequest}
use Rattle.kv_model.specs.declared.call.Compare.{Compare}
use Rattle.kv_model.specs.declared.call.Watched.{Watched}

-- operations in a row; `txn` has its compares, its two branches, and what follows it in the row
pub data Ops : Type 0 where
  no_ops : Ops
  range : RangeQuery → Ops → Ops
  put : PutRequest → Ops → Ops
  delete : DeleteRequest → Ops → Ops
  txn : List Compare → Ops → Ops → Ops → Ops

pub data Call : Type 0 where
  range : RangeQuery → Call
  put : PutRequest → Call
  delete : DeleteRequest → Call
  txn : List Compare → Ops → Ops → Call
  compact : ℤ → Bool → Call
  watch : Watched → ℤ → ℤ → Call
  grant : ℤ → ℤ → Call
  revoke : ℤ → Call
  keep_alive : ℤ → Call
  time_to_live : ℤ → Bool → Call
  leases : Call

-- one row after another
abbrev pub then : Ops → Ops → Ops
then Ops.no_ops more = more
then (Ops.range q rest) more = Ops.range q (then rest more)
then (Ops.put p rest) more = Ops.put p (then rest more)
then (Ops.delete d rest) more = Ops.delete d (then rest more)
then (Ops.txn cs s f rest) more = Ops.txn cs s f (then rest more)

abbrev pub joined : List Ops → Ops
joined [] = Ops.no_ops
joined (o ∷ os) = then o (joined os)

-- the call that a row of one operation asks for
abbrev pub as_call : Ops → Call
as_call Ops.no_ops = Call.txn [] Ops.no_ops Ops.no_ops
as_call (Ops.range q rest) = Call.range q
as_call (Ops.put p rest) = Call.put p
as_call (Ops.delete d rest) = Call.delete d
as_call (Ops.txn cs s f rest) = Call.txn cs s f

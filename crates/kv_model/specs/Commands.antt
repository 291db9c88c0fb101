-- The program's commands, as plain data.
use Rattle.std.specs.Prelude.{List, map}
use Rattle.kv_model.specs.declared.call.Command.{Command}
use Rattle.kv_model.specs.declared.call.Command.TheVariants as command
use Rattle.kv_model.specs.declared.call.Operation.{Operation, fold-Operation}
use Rattle.kv_model.specs.declared.call.Operation.TheOpen.{Operation-F, Txn-F}
use Rattle.kv_model.specs.declared.call.Txn.{Txn, fold-Txn}
use Rattle.kv_model.specs.Calls.{Ops, Call, joined, as_call}

-- one level of the program's operations and transactions, those within seen as rows already
abbrev pub op_step : Operation-F Ops Ops → Ops
op_step (Operation-F.Range q) = Ops.range q Ops.no_ops
op_step (Operation-F.Put p) = Ops.put p Ops.no_ops
op_step (Operation-F.Delete d) = Ops.delete d Ops.no_ops
op_step (Operation-F.Inner t) = t

abbrev pub txn_step : Txn-F Ops Ops → Ops
txn_step t = Ops.txn t.compare.items (joined t.success.items) (joined t.failure.items) Ops.no_ops

abbrev pub op_view : Operation → Ops
op_view = fold-Operation Ops Ops op_step txn_step

-- a transaction, as a row of one
abbrev pub txn_view : Txn → Ops
txn_view = fold-Txn Ops Ops op_step txn_step

abbrev pub ops_view : List Operation → Ops
ops_view os = joined (map op_view os)

-- a command of the program, as plain data
abbrev pub call_of : Command → Call
call_of (command.Range q) = Call.range q
call_of (command.Put p) = Call.put p
call_of (command.Delete d) = Call.delete d
call_of (command.Txn t) = as_call (txn_view t)
call_of (command.Compact revision physical) = Call.compact revision physical
call_of (command.Watch watched start id) = Call.watch watched start id
call_of (command.Grant ttl id) = Call.grant ttl id
call_of (command.Revoke id) = Call.revoke id
call_of (command.KeepAlive id) = Call.keep_alive id
call_of (command.TimeToLive id keys) = Call.time_to_live id keys
call_of command.Leases = Call.leases

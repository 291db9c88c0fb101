-- Parts of the reading of a transaction.
use Rattle.std.specs.Prelude.{ℕ, List, codes, Option, None, Some, Ok, Err}
use Rattle.serde_json.specs.Data.{Data, Items, Members}
use Rattle.kv_model.specs.declared.call.Compare.{Compare}
use Rattle.kv_model.specs.Calls.{Ops, joined}
use Rattle.kv_model.specs.Requests.{Read, ◌>>=◌, bad_field, some_or, members_of, given, list_field, each}
use Rattle.kv_model.specs.Requests.{operation, compare_request, range_query, put_request, delete_request}
use Rattle.gateway_read.specs.Objects.{seen}
use Rattle.gateway_read.specs.declared.transacting.Kind.{Kind}
use Rattle.gateway_read.specs.declared.transacting.Kind.TheVariants.{Range, Put, Delete, Inner}

-- the kind of an operation, with its message
pub data Message : Type 0 where
  range : Members → Message
  put : Members → Message
  delete : Members → Message
  inner : Members → Message

abbrev pub message_of : Kind → Message
message_of (Range object) = Message.range (seen object)
message_of (Put object) = Message.put (seen object)
message_of (Delete object) = Message.delete (seen object)
message_of (Inner object) = Message.inner (seen object)

abbrev pub object_under : List ℕ → Data → Read Members
object_under name d = some_or (bad_field name) (members_of d)

-- exactly one of the four kinds, with its object
abbrev pub only_of : List ℕ → Option Data → Option Data → Option Data → Option Data → Read Message
only_of name (Some d) None None None = object_under (codes "request_range") d >>= λ ms. Ok (Message.range ms)
only_of name None (Some d) None None = object_under (codes "request_put") d >>= λ ms. Ok (Message.put ms)
only_of name None None (Some d) None = object_under (codes "request_delete_range") d >>= λ ms. Ok (Message.delete ms)
only_of name None None None (Some d) = object_under (codes "request_txn") d >>= λ ms. Ok (Message.inner ms)
only_of name _ _ _ _ = Err (bad_field name)

-- the one kind of an operation of the list with this name
unfoldable pub kind_read : List ℕ → Data → Read Message
kind_read name d = object_under name d >>= λ ms.
    only_of name (given (codes "request_range") ms) (given (codes "request_put") ms)
    (given (codes "request_delete_range") ms) (given (codes "request_txn") ms)

-- the operation that a message asks for, where transactions are read by txn
abbrev pub message_read : (Members → Read Ops) → Message → Read Ops
message_read txn (Message.range ms) = range_query ms >>= λ q. Ok (Ops.range q Ops.no_ops)
message_read txn (Message.put ms) = put_request ms >>= λ p. Ok (Ops.put p Ops.no_ops)
message_read txn (Message.delete ms) = delete_request ms >>= λ r. Ok (Ops.delete r Ops.no_ops)
message_read txn (Message.inner ms) = txn ms

-- the operations that the values of a list ask for
abbrev pub operations_read : (Members → Read Ops) → List ℕ → Items → Read Ops
operations_read txn name items = each (operation txn name) items >>= λ ops. Ok (joined ops)

-- the compares of a transaction
abbrev pub compares_read : Members → Read (List Compare)
compares_read ms = list_field (codes "compare") ms >>= λ items. each compare_request items

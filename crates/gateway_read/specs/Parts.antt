-- Parts of the model's readings, for the functions that read them.
use Rattle.std.specs.Prelude.{ℕ, List, Ok, Bool, true, false, codes}
use Rattle.serde_json.specs.Data.{Members}
use Rattle.kv_model.specs.declared.call.RangeQuery.{RangeQuery}
use Rattle.kv_model.specs.Calls.{Call, as_call}
use Rattle.kv_model.specs.Requests.{Read, ◌>>=◌, bytes_field, range_query, put_request, delete_request, txn_request}
use Rattle.kv_model.specs.Requests.{most_nested, compact_request, watch_request, grant_request, id_request}
use Rattle.kv_model.specs.Requests.{time_to_live_request, object_of}
use Rattle.gateway_read.specs.Options.{flags_of, bounds_of, with_options}
use Rattle.gateway_read.specs.declared.requests.Request.{Request}
use Rattle.gateway_read.specs.declared.requests.Request.TheVariants.{Range, Put, Delete, Txn, Compact, Watch}
use Rattle.gateway_read.specs.declared.requests.Request.TheVariants.{Grant, Revoke, KeepAlive, TimeToLive, Leases}

-- a query with what is left to read of a Range
unfoldable pub completed : RangeQuery → Members → Read RangeQuery
completed q ms = flags_of ms >>= λ f. bounds_of ms >>= λ b. Ok (with_options q f b)

-- the key and the value of a Put
unfoldable pub key_and_value : Members → Read (List ℕ × List ℕ)
key_and_value ms = bytes_field (codes "key") ms >>= λ k. bytes_field (codes "value") ms >>= λ v. Ok (k, v)

-- how the fields of a request are read
abbrev pub call_read : Request → Members → Read Call
call_read Range ms = range_query ms >>= λ q. Ok (Call.range q)
call_read Put ms = put_request ms >>= λ p. Ok (Call.put p)
call_read Delete ms = delete_request ms >>= λ d. Ok (Call.delete d)
call_read Txn ms = txn_request most_nested ms >>= λ t. Ok (as_call t)
call_read Compact ms = compact_request ms
call_read Watch ms = watch_request ms
call_read Grant ms = grant_request ms
call_read Revoke ms = id_request Call.revoke ms
call_read KeepAlive ms = id_request Call.keep_alive ms
call_read TimeToLive ms = time_to_live_request ms
call_read Leases ms = Ok Call.leases

-- the command of a request of this kind, with this body
abbrev pub command_read : Request → List ℕ → Read Call
command_read request body = object_of body >>= call_read request

-- whether reading them takes memory: those of a compaction and of what is asked of leases are numbers and truth values
abbrev pub takes_memory : Request → Bool
takes_memory Compact = false
takes_memory Grant = false
takes_memory Revoke = false
takes_memory KeepAlive = false
takes_memory TimeToLive = false
takes_memory Leases = false
takes_memory _ = true

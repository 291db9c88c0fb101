-- What opens the large definitions, so that worked rows compute.
use Rattle.std.specs.Prelude.{⊤}
use Rattle.kv_model.specs.History.{dress, value_at, value_now}
use Rattle.kv_model.specs.Ranges.{live, live_now, reply_from, range_reply}
use Rattle.kv_model.specs.Txns.{static_fault, path_of, effect, run_refusal, replies_of, changes_of, clashes, walk_fault}
use Rattle.kv_model.specs.Step.{range_in, put_in, delete_in, run_path, txn_in, compact_in, watch_in, grant_in}
use Rattle.kv_model.specs.Step.{revoke_in, keep_alive_in, time_to_live_in}

-- an `unfolding` line that names this opens the definitions of histories, reads, transactions and steps
unfoldable pub model_on_literals : ⊤
unfolding dress value_at value_now live live_now reply_from range_reply static_fault path_of effect run_refusal replies_of changes_of clashes walk_fault range_in put_in delete_in run_path txn_in compact_in watch_in grant_in revoke_in keep_alive_in time_to_live_in
model_on_literals = tt

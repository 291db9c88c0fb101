-- Which refusals come before memory is asked for.
use Rattle.std.specs.Prelude.{not, Option, None, Some, Result, Ok, Err}
use Rattle.kv_model.specs.declared.refusal.Refusal.{Refusal}
use Rattle.kv_model.specs.declared.refusal.Refusal.TheVariants.{NoKey, LeaseMissing}
use Rattle.kv_model.specs.Lists.{is_empty}
use Rattle.kv_model.specs.Ranges.{refuse_if}
use Rattle.kv_model.specs.Calls.{Call, Ops}
use Rattle.kv_model.specs.Txns.{walk_fault}
use Rattle.kv_model.specs.Leases.{is_granted}
use Rattle.kv_model.specs.Told.{Answer}
use Rattle.kv_model.specs.World.{World}
use Rattle.kv_model.specs.Step.{perform}

-- the refusal that an answer is, if it is one
abbrev pub first_refusal : Result Answer Refusal → Option Refusal
first_refusal (Ok a) = None
first_refusal (Err e) = Some e

-- The refusal that a command has before any memory is asked for, so that want of memory never comes in its place. A delete
-- goes on to list keys, a revoke those of its lease, and a transaction those that it touches; of any other command every
-- refusal comes before.
abbrev pub fault_without_memory : World → Call → Option Refusal
fault_without_memory w (Call.delete d) = refuse_if (is_empty d.range.key) NoKey
fault_without_memory w (Call.revoke id) = refuse_if (not (is_granted w.leases id)) LeaseMissing
fault_without_memory w (Call.txn compares success failure) = walk_fault 0 (Ops.txn compares success failure Ops.no_ops)
fault_without_memory w call = first_refusal (perform w call).0

-- What happens to a store, and what it tells.
use Rattle.std.specs.Prelude.{ℕ, ℤ, List, Bool, Option}
use Rattle.kv_model.specs.declared.version.Rev.{Rev}
use Rattle.kv_model.specs.History.{KeyValue}
use Rattle.kv_model.specs.Ranges.{RangeReply}
use Rattle.kv_model.specs.Txns.{Replies}

-- The reply to an accepted command. A put has the key-value before, where it was asked for; a delete the number of keys
-- deleted, and their key-values before; a transaction whether its compares held. A watch has the client's ID for it and
-- the store's number, a grant and a KeepAlive the lease's ID and time to live in seconds. A time to live has the ID,
-- the seconds left, those granted, and the keys of the lease.
pub data Reply : Type 0 where
  range : RangeReply → Reply
  put : Option KeyValue → Reply
  delete : ℕ → List KeyValue → Reply
  txn : Bool → Replies → Reply
  compact : Reply
  watch : ℤ → ℕ → Reply
  grant : ℤ → ℕ → Reply
  revoke : Reply
  keep_alive : ℤ → ℕ → Reply
  time_to_live : ℤ → ℤ → ℕ → List (List ℕ) → Reply
  leases : List ℤ → Reply

-- a reply, with the revision of the store after it
pub record Answer : Type 0 where
  pub reply : Reply
  pub revision : ℕ

-- An expiry step: no lease is due, or one is revoked (its ID, the revision after it, and whether that rose), or its
-- keys can't be deleted since the revisions are spent.
pub data Expiry : Type 0 where
  nothing : Expiry
  expired : ℤ → ℕ → Bool → Expiry
  spent : Expiry

-- A trimming step takes a version out, or keeps it, or has none left to look at and tells how many there are.
pub data Trimmed : Type 0 where
  removed : Rev → Trimmed
  kept : Rev → Trimmed
  done : ℕ → Trimmed

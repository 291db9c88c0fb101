-- What receipts and answers say, in the definitions' terms.
use Rattle.std.specs.Prelude.{◌≡◌, ℕ, ◌+◌, ◌-◌, ◌<◌, ◌^◌, ℤ, pos, negsuc, List, Bool, true, false, ◌&&◌, ◌||◌, nat_lt}
use Rattle.std.specs.Prelude.{is_some, unwrap_or, Option, None, Some, option_map, map, ⊤}
use Rattle.kv_model.specs.History.{value_at, end_of}
use Rattle.kv_model.specs.Ranges.{range_reply, revision_refusal, live}
use Rattle.kv_model.specs.Txns.{Path, previous_value, if_asked, changes_of, replies_of}
use Rattle.kv_model.specs.Leases.{lease_at}
use Rattle.store_laws.specs.Plans.{ReadsKept}
use Rattle.store_laws.specs.Stores.{reply_of_time_to_live, reply_of_leases}
use Rattle.kv_model.specs.Told.{Reply, Answer as ModelAnswer, Expiry as ModelExpiry}
use Rattle.lease_book.specs.declared.book.TimeLeft.{TimeLeft}
use Rattle.store_laws.specs.Stands.{Store}
use Rattle.range_view.specs.Replies.{kv_view, reply_view, replies_view}
use Rattle.txn_core.specs.Steps.{steps_view}
-- a refusal is the model's, but for want of memory, which may come in its place
pub use Rattle.txn_core.specs.Planning.{is_memory, IsFault, IsFirst, IsRefusal}
use Rattle.request_core.specs.declared.answer.Receipt.{Receipt}
use Rattle.request_core.specs.declared.answer.Todo.{Todo}
use Rattle.request_core.specs.declared.answer.Todo.TheVariants as todo
use Rattle.request_core.specs.declared.answer.Answer.{Answer}
use Rattle.request_core.specs.declared.answer.Answer.TheVariants as answer
use Rattle.request_core.specs.declared.answer.Expiry.{Expiry}
use Rattle.request_core.specs.declared.answer.Expiry.TheVariants as expiry
use Rattle.request_core.specs.State.{CoreState}

-- what is told of a lease's time, the keys beside it
abbrev pub time_left_view : ℤ → Option TimeLeft → List (List ℕ) → Reply
time_left_view id None keys = Reply.time_to_live id (negsuc 0) 0 keys
time_left_view id (Some t) keys = Reply.time_to_live id (pos t.seconds) t.granted keys

-- an answer that lends, as plain data
abbrev pub answer_view : Answer → ModelAnswer
answer_view (answer.Range r) = record { reply = Reply.range (reply_view r); revision = r.revision }
answer_view (answer.Put revision previous) = record {
  reply = Reply.put (option_map kv_view previous);
  revision = revision;
}
answer_view (answer.Delete revision deleted previous) = record {
  reply = Reply.delete deleted (map kv_view previous.items);
  revision = revision;
}
answer_view (answer.Txn revision succeeded replies) = record {
  reply = Reply.txn succeeded (replies_view replies.items);
  revision = revision;
}
answer_view (answer.Grant revision id ttl) = record { reply = Reply.grant id ttl; revision = revision }
answer_view (answer.Revoke revision) = record { reply = Reply.revoke; revision = revision }
answer_view (answer.KeepAlive revision id ttl) = record { reply = Reply.keep_alive id ttl; revision = revision }
answer_view (answer.TimeToLive revision id left keys) = record {
  reply = time_left_view id left (map (λ k. k.now) keys.items);
  revision = revision;
}
answer_view (answer.Leases revision ids) = record { reply = Reply.leases ids.items; revision = revision }
answer_view (answer.Compact revision) = record { reply = Reply.compact; revision = revision }
answer_view (answer.Watch revision id number) = record { reply = Reply.watch id number; revision = revision }

-- what is read of a store for an answer at the revision
abbrev pub reply_left : Todo → Store → ℕ → Reply
reply_left (todo.Range q) s revision = Reply.range (range_reply s.versions revision (end_of revision) q.now)
reply_left (todo.Put key asked) s revision =
    Reply.put (previous_value asked (value_at s.versions (end_of (revision - 1)) key.now))
reply_left (todo.Delete range asked deleted) s revision =
    Reply.delete deleted (if_asked (asked && nat_lt 0 deleted) (live s.versions (end_of (revision - 1)) range.now))
reply_left (todo.Txn before succeeded steps) s revision =
    Reply.txn succeeded (replies_of s.versions before 0 (steps_view steps.items))
reply_left (todo.Grant id ttl) s revision = Reply.grant id ttl
reply_left todo.Revoke s revision = Reply.revoke
reply_left (todo.KeepAlive id ttl) s revision = Reply.keep_alive id (unwrap_or ttl 0)
reply_left (todo.TimeToLive id asked) s revision = reply_of_time_to_live s id asked (lease_at s.leases id)
reply_left todo.Leases s revision = reply_of_leases s
reply_left todo.Compact s revision = Reply.compact
reply_left (todo.Watch id number) s revision = Reply.watch id number

-- the answer that a receipt stands for, on the state that it left
abbrev pub answer_of : Receipt → CoreState → ModelAnswer
answer_of r s = record { reply = reply_left r.todo s.store r.revision; revision = r.revision }

-- the command changed something besides the versions
abbrev pub is_beside : Todo → Bool
is_beside (todo.Grant id ttl) = true
is_beside todo.Revoke = true
is_beside (todo.KeepAlive id ttl) = is_some ttl
is_beside todo.Compact = true
is_beside (todo.Watch id number) = true
is_beside _ = false

-- the number of the watch that the command made
abbrev pub watch_of : Todo → Option ℕ
watch_of (todo.Watch id number) = Some number
watch_of _ = None

abbrev pub has_changed : Receipt → Bool
has_changed r = is_some r.raised || is_beside r.todo

-- nothing has to grow for the answer
abbrev pub is_free : Todo → Bool
is_free (todo.Put key asked) = true
is_free (todo.Grant id ttl) = true
is_free todo.Revoke = true
is_free (todo.KeepAlive id ttl) = true
is_free todo.Compact = true
is_free (todo.Watch id number) = true
is_free _ = false

-- the operations that ran behind a revision can be answered: none of their Ranges is refused, and their changes are
-- numbered
pub record CanReply (s : Store) (before : ℕ) (q : Path) : Type 0 where
  pub reads : ReadsKept s.compacted before q
  pub few : changes_of s.versions (before + 1) 0 q < 2 ^ 64
  pub fits : before + 1 < 2 ^ 64

-- a Range that is to be read does not ask for a revision that is compacted or in the future, and what a transaction saw
-- can be told
abbrev pub IsAllowed : Todo → Store → Type 0
IsAllowed (todo.Range q) s = revision_refusal s.compacted s.revision q.now.revision ≡ None
IsAllowed (todo.Txn before succeeded steps) s = CanReply s before (steps_view steps.items)
IsAllowed _ s = ⊤

-- the state is the one that the receipt's command left
pub record IsReadable (r : Receipt) (s : CoreState) : Type 0 where
  pub stamp : r.stamp ≡ s.stamp
  pub revision : r.revision ≡ s.store.revision
  pub allowed : IsAllowed r.todo s.store

-- ---- expiry

abbrev pub expiry_view : Expiry → ModelExpiry
expiry_view expiry.Nothing = ModelExpiry.nothing
expiry_view (expiry.Expired id revision raised) = ModelExpiry.expired id revision raised

-- a lease was revoked
abbrev pub has_expired : Expiry → Bool
has_expired expiry.Nothing = false
has_expired (expiry.Expired id revision raised) = true

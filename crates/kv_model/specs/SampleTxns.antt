-- Worked rows of transactions.
use Rattle.std.specs.Prelude.{◌≡◌, refl, ℕ, zero, suc, pos, List, [], ◌∷◌, true, false, None}
use Rattle.kv_model.specs.declared.call.DeleteRequest.{DeleteRequest}
use Rattle.kv_model.specs.declared.call.Compare.{Compare}
use Rattle.kv_model.specs.declared.call.Relation.TheVariants.{IsEqual, IsNotEqual}
use Rattle.kv_model.specs.declared.call.Operand.TheVariants.{OfVersion, OfValue, OfLease}
use Rattle.kv_model.specs.declared.refusal.Refusal.TheVariants.{Future, DuplicateKey, TooDeep, TooManyOps}
use Rattle.kv_model.specs.Keys.{one_key, all_keys}
use Rattle.kv_model.specs.History.{KeyValue}
use Rattle.kv_model.specs.Ranges.{plain_range, RangeReply}
use Rattle.kv_model.specs.Calls.{Call, Ops}
use Rattle.kv_model.specs.Txns.{Replies}
use Rattle.kv_model.specs.World.{opening}
use Rattle.kv_model.specs.Told.{Reply}
use Rattle.kv_model.specs.SampleRuns.{Event, told_by}
use Rattle.kv_model.specs.OnLiterals.{model_on_literals}
use Rattle.kv_model.specs.Samples.{a, x, y, one, two, put_of, put_event, range_event, all_query, told, refused}
use Rattle.kv_model.specs.Samples.{put_reply, kv_of, found}

abbrev pub txn_event : List Compare → Ops → Ops → Event
txn_event cs s f = Event.command (Call.txn cs s f)

-- ---- a Range in a transaction sees the puts before it

abbrev pub all_found : List KeyValue → ℕ → RangeReply
all_found kvs n = record { kvs = kvs; count = n; more = false; revision = 1 }

pub reads_within : told_by opening
    (txn_event [] (Ops.put (put_of x one)
    (Ops.range all_query (Ops.put (put_of y two) (Ops.range all_query Ops.no_ops)))) Ops.no_ops ∷ [])
    ≡ told 2 (Reply.txn true (Replies.put None (Replies.range (all_found (kv_of x one 2 2 1 ∷ []) 1)
    (Replies.put None (Replies.range (all_found (kv_of x one 2 2 1 ∷ kv_of y two 2 2 1 ∷ []) 2) Replies.no_replies)))))
    ∷ []
unfolding model_on_literals
reads_within = refl

-- its own revision is held against the state before, and nothing is changed where it is refused
pub reads_ahead : told_by opening (txn_event [] (Ops.put (put_of a []) (Ops.range (plain_range a 2) Ops.no_ops))
    Ops.no_ops ∷ range_event (plain_range a 0) ∷ [])
    ≡ refused (Future 1) ∷ found 1 [] 0 false ∷ []
unfolding model_on_literals
reads_ahead = refl

-- ---- compares

-- where there is no key its version and lease are 0, and its value is like no other
pub compares_of_nothing : told_by opening
    (txn_event ((record { range = one_key x; relation = IsEqual; operand = OfValue [] }) ∷ []) Ops.no_ops Ops.no_ops
    ∷ txn_event ((record { range = one_key x; relation = IsNotEqual; operand = OfValue one })
    ∷ []) Ops.no_ops Ops.no_ops
    ∷ txn_event ((record { range = one_key x; relation = IsEqual; operand = OfLease (pos 0) })
    ∷ []) Ops.no_ops Ops.no_ops ∷ [])
    ≡ told 1 (Reply.txn false Replies.no_replies) ∷ told 1 (Reply.txn false Replies.no_replies)
    ∷ told 1 (Reply.txn true Replies.no_replies) ∷ []
unfolding model_on_literals
compares_of_nothing = refl

abbrev pub is_new : List ℕ → Compare
is_new k = record { range = one_key k; relation = IsEqual; operand = OfVersion (pos 0) }

-- x is put, and then a key by what a nested compare says of x
abbrev pub nested : List ℕ → Event
nested k = txn_event [] (Ops.put (put_of x []) (Ops.txn (is_new x ∷ []) (Ops.put (put_of k one) Ops.no_ops)
    (Ops.put (put_of k two) Ops.no_ops) Ops.no_ops)) Ops.no_ops

-- a nested compare is decided on the state before
pub nested_compare : told_by opening (nested y ∷ range_event (plain_range y 0) ∷ [])
    ≡ told 2 (Reply.txn true (Replies.put None (Replies.txn true (Replies.put None Replies.no_replies)
    Replies.no_replies)))
    ∷ found 2 (kv_of y one 2 2 1 ∷ []) 1 false ∷ []
unfolding model_on_literals
nested_compare = refl

-- ---- operations that may not run together

pub put_twice : told_by opening (nested x ∷ []) ≡ refused DuplicateKey ∷ []
unfolding model_on_literals
put_twice = refl

abbrev pub delete_all : DeleteRequest
delete_all = record { range = all_keys; prev_kv = false }

abbrev pub delete_a : DeleteRequest
delete_a = record { range = one_key a; prev_kv = false }

pub delete_and_put : told_by opening (txn_event [] (Ops.delete delete_all (Ops.put (put_of a []) Ops.no_ops)) Ops.no_ops
    ∷ []) ≡ refused DuplicateKey ∷ []
unfolding model_on_literals
delete_and_put = refl

-- deletes may overlap, and the later one finds less
pub two_deletes : told_by opening (put_event a one
    ∷ txn_event [] (Ops.delete delete_a (Ops.delete delete_all Ops.no_ops)) Ops.no_ops ∷ [])
    ≡ put_reply 2 ∷ told 3 (Reply.txn true (Replies.delete 1 [] (Replies.delete 0 [] Replies.no_replies))) ∷ []
unfolding model_on_literals
two_deletes = refl

-- the two branches of one transaction never run together
pub put_in_each_branch : told_by opening (txn_event (is_new x ∷ []) (Ops.put (put_of x one) Ops.no_ops)
    (Ops.put (put_of x two) Ops.no_ops) ∷ [])
    ≡ told 2 (Reply.txn true (Replies.put None Replies.no_replies)) ∷ []
unfolding model_on_literals
put_in_each_branch = refl

-- ---- size and depth

abbrev pub deletes : ℕ → Ops
deletes zero = Ops.no_ops
deletes (suc n) = Ops.delete delete_a (deletes n)

abbrev pub none_deleted : ℕ → Replies
none_deleted zero = Replies.no_replies
none_deleted (suc n) = Replies.delete 0 [] (none_deleted n)

pub most_operations : told_by opening (txn_event [] (deletes 1024) Ops.no_ops ∷ txn_event [] (deletes 1025) Ops.no_ops
    ∷ [])
    ≡ told 1 (Reply.txn true (none_deleted 1024)) ∷ refused TooManyOps ∷ []
unfolding model_on_literals
most_operations = refl

-- so many transactions, each the only operation of the one before
abbrev pub inner : ℕ → Ops
inner zero = Ops.no_ops
inner (suc n) = Ops.txn [] (inner n) Ops.no_ops Ops.no_ops

abbrev pub inner_replies : ℕ → Replies
inner_replies zero = Replies.no_replies
inner_replies (suc n) = Replies.txn true (inner_replies n) Replies.no_replies

pub deepest : told_by opening (txn_event [] (inner 8) Ops.no_ops ∷ txn_event [] (inner 7) Ops.no_ops ∷ [])
    ≡ refused TooDeep ∷ told 1 (Reply.txn true (inner_replies 7)) ∷ []
unfolding model_on_literals
deepest = refl

-- What is lent, as the definitions speak of it.
use Rattle.std.specs.Prelude.{List, [], ◌∷◌, map, option_map}
use Rattle.kv_model.specs.History.{KeyValue}
use Rattle.kv_model.specs.Ranges as ranges
use Rattle.kv_model.specs.Txns.{Replies}
use Rattle.range_view.specs.declared.reply.KvRef.{KvRef}
use Rattle.range_view.specs.declared.reply.RangeReply.{RangeReply}
use Rattle.range_view.specs.declared.reply.OpReply.{OpReply, fold-OpReply}
use Rattle.range_view.specs.declared.reply.OpReply.TheOpen.{OpReply-F}

-- a key-value that is lent, as plain data
abbrev pub kv_view : KvRef → KeyValue
kv_view kv = record {
  key = kv.key.now;
  value = kv.value.now;
  create = kv.create;
  modified = kv.modified;
  version = kv.version;
  lease = kv.lease;
}

-- a reply that lends key-values, as plain data
abbrev pub reply_view : RangeReply → ranges.RangeReply
reply_view r = record { kvs = map kv_view r.kvs.items; count = r.count; more = r.more; revision = r.revision }

-- ---- the answers of a transaction

-- answers in a row, each as what it puts before those behind it
abbrev pub in_row : List (Replies → Replies) → Replies → Replies
in_row [] rest = rest
in_row (f ∷ fs) rest = f (in_row fs rest)

-- one level of an operation's answer, those within seen already
abbrev pub op_reply_step : OpReply-F (Replies → Replies) → Replies → Replies
op_reply_step (OpReply-F.Range r) rest = Replies.range (reply_view r) rest
op_reply_step (OpReply-F.Put held) rest = Replies.put (option_map kv_view held) rest
op_reply_step (OpReply-F.Delete deleted previous) rest = Replies.delete deleted (map kv_view previous.items) rest
op_reply_step (OpReply-F.Inner succeeded replies) rest =
    Replies.txn succeeded (in_row replies.items Replies.no_replies) rest

abbrev pub op_reply_view : OpReply → Replies → Replies
op_reply_view = fold-OpReply (Replies → Replies) op_reply_step

abbrev pub replies_view : List OpReply → Replies
replies_view rs = in_row (map op_reply_view rs) Replies.no_replies

-- The texts of answers (etcd: the JSON gateway): names in byte order, a field at its default left out.
use Rattle.std.specs.Prelude.{ℕ, ℤ, pos, List, [], ◌∷◌, ◌++◌, map, Bool, true, ◌==◌, if◌then◌else◌, Option, None, Some}
use Rattle.std.specs.Prelude.{option_map, Result, Ok, Err, codes, decimal}
use Rattle.std.specs.Fmt.{signed_decimal}
use Rattle.std.specs.Ordering.{int_eq}
use Rattle.serde_json.specs.Data.{Num, Data, Items, Members}
use Rattle.serde_json.specs.Written.{compact_text}
use Rattle.base64.specs.Engines.{standard}
use Rattle.base64.specs.GeneralPurpose.{encode_of}
use Rattle.kv_model.specs.declared.version.Version.{Version}
use Rattle.kv_model.specs.declared.version.Body.{Body}
use Rattle.kv_model.specs.declared.version.Body.TheVariants.{Put, Gone}
use Rattle.kv_model.specs.declared.refusal.Refusal.{Refusal}
use Rattle.kv_model.specs.declared.refusal.Refusal.TheVariants.{Memory, Compacted, Future, NoKey, TooManyOps}
use Rattle.kv_model.specs.declared.refusal.Refusal.TheVariants.{DuplicateKey, ValueGiven, LeaseGiven, TooDeep}
use Rattle.kv_model.specs.declared.refusal.Refusal.TheVariants.{KeyMissing, LeaseMissing, LeaseExists, TtlTooLarge}
use Rattle.kv_model.specs.declared.refusal.Refusal.TheVariants.{TooManyLeases, TooManyWatches, NoWatch, RevisionsSpent}
use Rattle.kv_model.specs.declared.refusal.Refusal.TheVariants.{NoPlace}
use Rattle.kv_model.specs.declared.ids.Ids.{Ids}
use Rattle.kv_model.specs.Lists.{is_empty}
use Rattle.kv_model.specs.History.{KeyValue, key_value}
use Rattle.kv_model.specs.Ranges.{RangeReply}
use Rattle.kv_model.specs.Watches.{WatchEvent}
use Rattle.kv_model.specs.Txns.{Replies}
use Rattle.kv_model.specs.Watches.{Delivery}
use Rattle.kv_model.specs.Told.{Reply, Answer}
use Rattle.kv_model.specs.Requests.{Bad}

-- ---- values, and nothing where the value is the default

abbrev pub text_of : List ℕ → Data
text_of s = Data.string s

abbrev pub nat_field : ℕ → Option Data
nat_field n = if n == 0 then None else Some (text_of (decimal n))

abbrev pub int_field : ℤ → Option Data
int_field n = if int_eq n (pos 0) then None else Some (text_of (signed_decimal n))

unfoldable pub bytes_text : List ℕ → Data
bytes_text b = text_of (encode_of standard b)

abbrev pub bytes_field : List ℕ → Option Data
bytes_field b = if is_empty b then None else Some (bytes_text b)

abbrev pub truth_field : Bool → Option Data
truth_field b = if b then Some (Data.boolean true) else None

abbrev pub items_of : List Data → Items
items_of [] = Items.no_items
items_of (d ∷ ds) = Items.item d (items_of ds)

abbrev pub list_field : List Data → Option Data
list_field [] = None
list_field (d ∷ ds) = Some (Data.array (items_of (d ∷ ds)))

abbrev pub with_field : List ℕ → Option Data → Members → Members
with_field name None rest = rest
with_field name (Some d) rest = Members.member name d rest

-- an object of the fields that are not at their default
abbrev pub members : List (List ℕ × Option Data) → Members
members [] = Members.no_members
members (f ∷ fs) = with_field f.0 f.1 (members fs)

abbrev pub object : List (List ℕ × Option Data) → Data
object fs = Data.object (members fs)

-- ---- the messages

unfoldable pub header : Ids → ℕ → Data
header ids r = object ((codes "cluster_id", nat_field ids.cluster) ∷ (codes "member_id", nat_field ids.member)
    ∷ (codes "raft_term", nat_field 1) ∷ (codes "revision", nat_field r) ∷ [])

-- the header within a transaction has the revision alone
unfoldable pub short_header : ℕ → Data
short_header r = object ((codes "revision", nat_field r) ∷ [])

unfoldable pub key_value_text : KeyValue → Data
key_value_text kv = object ((codes "create_revision", nat_field kv.create) ∷ (codes "key", bytes_field kv.key)
    ∷ (codes "lease", int_field kv.lease)
    ∷ (codes "mod_revision", nat_field kv.modified) ∷ (codes "value", bytes_field kv.value)
    ∷ (codes "version", nat_field kv.version) ∷ [])

unfoldable pub range_text : Data → RangeReply → Data
range_text h r = object ((codes "count", nat_field r.count) ∷ (codes "header", Some h)
    ∷ (codes "kvs", list_field (map key_value_text r.kvs)) ∷ (codes "more", truth_field r.more) ∷ [])

unfoldable pub put_text : Data → Option KeyValue → Data
put_text h held = object ((codes "header", Some h) ∷ (codes "prev_kv", option_map key_value_text held) ∷ [])

unfoldable pub delete_text : Data → ℕ → List KeyValue → Data
delete_text h n kvs = object ((codes "deleted", nat_field n) ∷ (codes "header", Some h)
    ∷ (codes "prev_kvs", list_field (map key_value_text kvs)) ∷ [])

unfoldable pub txn_text : Data → Bool → List Data → Data
txn_text h b responses = object ((codes "header", Some h) ∷ (codes "responses", list_field responses)
    ∷ (codes "succeeded", truth_field b) ∷ [])

unfoldable pub response : List ℕ → Data → Data
response name d = object ((name, Some d) ∷ [])

-- the responses of a transaction that ends at the revision
unfoldable pub responses : ℕ → Replies → List Data
responses r Replies.no_replies = []
responses r (Replies.range reply rest) = response (codes "response_range") (range_text (short_header r) reply)
    ∷ responses r rest
responses r (Replies.put held rest) = response (codes "response_put") (put_text (short_header r) held)
    ∷ responses r rest
responses r (Replies.delete n kvs rest) = response (codes "response_delete_range") (delete_text (short_header r) n kvs)
    ∷ responses r rest
responses r (Replies.txn b inner rest) = response (codes "response_txn") (txn_text (short_header r) b
    (responses r inner)) ∷ responses r rest

unfoldable pub header_alone : Data → Data
header_alone h = object ((codes "header", Some h) ∷ [])

-- within `{"result": ..}`
unfoldable pub result_text : Data → Data
result_text d = object ((codes "result", Some d) ∷ [])

unfoldable pub lease_text : ℤ → Data
lease_text id = object ((codes "ID", int_field id) ∷ [])

unfoldable pub created_text : Data → ℤ → Data
created_text h id = result_text (object ((codes "created", truth_field true) ∷ (codes "header", Some h)
    ∷ (codes "watch_id", int_field id) ∷ []))

unfoldable pub reply_text : Data → ℕ → Reply → Data
reply_text h r (Reply.range reply) = range_text h reply
reply_text h r (Reply.put held) = put_text h held
reply_text h r (Reply.delete n kvs) = delete_text h n kvs
reply_text h r (Reply.txn b replies) = txn_text h b (responses r replies)
reply_text h r Reply.compact = header_alone h
reply_text h r (Reply.watch id number) = created_text h id
reply_text h r (Reply.grant id ttl) = object ((codes "ID", int_field id) ∷ (codes "TTL", nat_field ttl)
    ∷ (codes "header", Some h) ∷ [])
reply_text h r Reply.revoke = header_alone h
reply_text h r (Reply.keep_alive id ttl) = result_text (object ((codes "ID", int_field id)
    ∷ (codes "TTL", nat_field ttl) ∷ (codes "header", Some h) ∷ []))
reply_text h r (Reply.time_to_live id ttl granted keys) = object ((codes "ID", int_field id)
    ∷ (codes "TTL", int_field ttl) ∷ (codes "grantedTTL", nat_field granted)
    ∷ (codes "header", Some h) ∷ (codes "keys", list_field (map bytes_text keys)) ∷ [])
reply_text h r (Reply.leases ids) = object ((codes "header", Some h) ∷ (codes "leases", list_field (map lease_text ids))
    ∷ [])

-- ---- watch messages

unfoldable pub tombstone_text : List ℕ → ℕ → Data
tombstone_text k r = object ((codes "key", bytes_field k) ∷ (codes "mod_revision", nat_field r) ∷ [])

abbrev pub version_text : Version → Option KeyValue → Data
version_text v None = tombstone_text v.key v.rev.main
version_text v (Some kv) = key_value_text kv

abbrev pub event_type : Body → Option Data
event_type (Put create version lease value) = None
event_type Gone = Some (text_of (codes "DELETE"))

unfoldable pub event_text : WatchEvent → Data
event_text e = object ((codes "kv", Some (version_text e.version (key_value e.version)))
    ∷ (codes "prev_kv", option_map key_value_text e.before) ∷ (codes "type", event_type e.version.body) ∷ [])

unfoldable pub events_text : Data → ℤ → List WatchEvent → Data
events_text h id es = result_text (object ((codes "events", list_field (map event_text es)) ∷ (codes "header", Some h)
    ∷ (codes "watch_id", int_field id) ∷ []))

unfoldable pub cancelled_text : Data → ℤ → ℕ → Data
cancelled_text h id c = result_text (object ((codes "canceled", truth_field true) ∷ (
  codes "compact_revision",
  nat_field c,
) ∷ (codes "header", Some h) ∷ (codes "watch_id", int_field id) ∷ []))

-- ---- refusals: status, code and text

pub record Fault : Type 0 where
  pub status : ℕ
  pub code : ℕ
  pub text : List ℕ

abbrev pub fault : ℕ → ℕ → List ℕ → Fault
fault status code text = record { status = status; code = code; text = text }

-- NoWatch and NoPlace do not come on the wire
abbrev pub fault_of : Refusal → Fault
fault_of Memory = fault 500 13 (codes "etcdserver: out of memory")
fault_of (Compacted c) = fault 400 11 (codes "etcdserver: mvcc: required revision has been compacted")
fault_of (Future r) = fault 400 11 (codes "etcdserver: mvcc: required revision is a future revision")
fault_of NoKey = fault 400 3 (codes "etcdserver: key is not provided")
fault_of TooManyOps = fault 400 3 (codes "etcdserver: too many operations in txn request")
fault_of DuplicateKey = fault 400 3 (codes "etcdserver: duplicate key given in txn request")
fault_of ValueGiven = fault 400 3 (codes "etcdserver: value is provided")
fault_of LeaseGiven = fault 400 3 (codes "etcdserver: lease is provided")
fault_of TooDeep = fault 400 3 (codes "etcdserver: too many operations in txn request")
fault_of KeyMissing = fault 400 3 (codes "etcdserver: key not found")
fault_of LeaseMissing = fault 404 5 (codes "etcdserver: requested lease not found")
fault_of LeaseExists = fault 400 9 (codes "etcdserver: lease already exists")
fault_of TtlTooLarge = fault 400 11 (codes "etcdserver: too large lease TTL")
fault_of TooManyLeases = fault 400 8 (codes "etcdserver: too many leases")
fault_of TooManyWatches = fault 400 8 (codes "etcdserver: too many watches")
fault_of NoWatch = fault 404 5 []
fault_of RevisionsSpent = fault 400 11 (codes "etcdserver: revisions are spent")
fault_of NoPlace = fault 400 8 []

abbrev pub lost_fault : Fault
lost_fault = fault 500 13 (codes "etcdserver: answer lost, the change stands")

abbrev pub fault_of_bad : Bad → Fault
fault_of_bad Bad.no_path = fault 404 5 (codes "gateway: no such path")
fault_of_bad Bad.too_long = fault 400 3 (codes "gateway: body too long")
fault_of_bad Bad.not_json = fault 400 3 (codes "gateway: body is not a JSON object")
fault_of_bad (Bad.bad_field name) = fault 400 3 (codes "gateway: bad field " ++ name)
fault_of_bad (Bad.bad_base64 name) = fault 400 3 (codes "gateway: bad base64 in " ++ name)

unfoldable pub fault_text : Fault → Data
fault_text f = object ((codes "code", Some (Data.number (Num.unsigned f.code))) ∷ (codes "error", Some (text_of f.text))
    ∷ (codes "message", Some (text_of f.text)) ∷ [])

-- ---- the bytes

-- an HTTP status, and the bytes of a body
pub record Response : Type 0 where
  pub status : ℕ
  pub body : List ℕ

abbrev pub refused : Fault → Response
refused f = record { status = f.status; body = compact_text (fault_text f) }

abbrev pub success_response : Ids → Answer → Response
success_response ids a = record { status = 200; body = compact_text (reply_text (header ids a.revision) a.revision a.reply) }

abbrev pub response_to : Ids → Result Answer Refusal → Response
response_to ids (Ok a) = success_response ids a
response_to ids (Err e) = refused (fault_of e)

-- the message of a delivery at a revision, to the client's id; none where there is nothing to tell
abbrev pub message_text : Ids → ℕ → ℤ → Delivery → Option (List ℕ)
message_text ids r id Delivery.no_watch = None
message_text ids r id Delivery.nothing = None
message_text ids r id (Delivery.events es) = Some (compact_text (events_text (header ids r) id es))
message_text ids r id (Delivery.cancelled c) = Some (compact_text (cancelled_text (header ids r) id c))

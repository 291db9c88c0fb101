-- This crate's types, as the definitions of answers speak of them.
use Rattle.std.specs.Prelude.{ℕ, ℤ, pos, negsuc, List, [], ◌∷◌, ◌++◌, map, Option, None, Some, codes, true}
use Rattle.serde_json.specs.Data.{Data}
use Rattle.kv_model.specs.Answers.{Fault, header, short_header, object, nat_field}
use Rattle.kv_model.specs.Answers.{int_field, list_field, bytes_text, lease_text, responses}
use Rattle.kv_model.specs.Answers.{truth_field, event_text}
use Rattle.kv_model.specs.Watches.{WatchEvent}
use Rattle.kv_model.specs.Txns.{Replies}
use Rattle.range_view.specs.declared.reply.OpReply.{OpReply}
use Rattle.range_view.specs.Replies.{op_reply_view}
use Rattle.gateway_text.specs.declared.header.Header.{Header}
use Rattle.gateway_text.specs.declared.header.Header.TheVariants.{Whole, Short}
use Rattle.gateway_text.specs.declared.refusals.Wording.{Wording}
use Rattle.gateway_text.specs.declared.watches.Told.{Told}
use Rattle.gateway_text.specs.declared.watches.Told.TheVariants.{Created, Events, Cancelled}
use Rattle.watch_hub.specs.Messages.{event_view}

-- a header, as it stands in an answer
abbrev pub header_data : Header → Data
header_data (Whole ids revision) = header ids revision
header_data (Short revision) = short_header revision

-- what a refusal says
abbrev pub wording_view : Wording → Fault
wording_view w = record { status = w.status; code = w.code; text = w.text.now ++ w.name.now }

-- ---- leases

-- the seconds that a lease still has, and -1 where no lease has the ID
abbrev pub seconds_view : Option ℕ → ℤ
seconds_view (Some n) = pos n
seconds_view None = negsuc 0

-- a lease with its time to live
unfoldable pub lease_data : Data → ℤ → ℕ → Data
lease_data h id ttl = object ((codes "ID", int_field id) ∷ (codes "TTL", nat_field ttl) ∷ (codes "header", Some h) ∷ [])

unfoldable pub time_left_data : Data → ℤ → ℤ → ℕ → List (List ℕ) → Data
time_left_data h id ttl granted keys =
    object ((codes "ID", int_field id) ∷ (codes "TTL", int_field ttl) ∷ (codes "grantedTTL", nat_field granted)
    ∷ (codes "header", Some h) ∷ (codes "keys", list_field (map bytes_text keys)) ∷ [])

unfoldable pub leases_data : Data → List ℤ → Data
leases_data h ids = object ((codes "header", Some h) ∷ (codes "leases", list_field (map lease_text ids)) ∷ [])

-- ---- transactions

-- the first of a list, and null of none
abbrev pub first : List Data → Data
first [] = Data.null
first (d ∷ ds) = d

-- what an operation of a transaction that ends at the revision is answered
unfoldable pub response_of : ℕ → OpReply → Data
response_of r o = first (responses r (op_reply_view o Replies.no_replies))

-- ---- watches

unfoldable pub created_data : Data → ℤ → Data
created_data h id = object ((codes "created", truth_field true) ∷ (codes "header", Some h)
    ∷ (codes "watch_id", int_field id) ∷ [])

unfoldable pub events_data : Data → ℤ → List WatchEvent → Data
events_data h id es = object ((codes "events", list_field (map event_text es)) ∷ (codes "header", Some h)
    ∷ (codes "watch_id", int_field id) ∷ [])

unfoldable pub cancelled_data : Data → ℤ → ℕ → Data
cancelled_data h id c = object ((codes "canceled", truth_field true) ∷ (codes "compact_revision", nat_field c)
    ∷ (codes "header", Some h) ∷ (codes "watch_id", int_field id) ∷ [])

-- what stands in a message's result
abbrev pub message_data : Data → ℤ → Told → Data
message_data h id Created = created_data h id
message_data h id (Events es) = events_data h id (map event_view es.now)
message_data h id (Cancelled c) = cancelled_data h id c

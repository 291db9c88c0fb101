-- The room that is taken for a body, at most and at least: base64 takes less than two bytes for one, and names and numbers
-- are few.
use Rattle.std.specs.Prelude.{◌≡◌, ◌≤◌, ℕ, ◌+◌, ◌-◌, ◌*◌, ◌^◌, ◌==◌, ◌&&◌, nat_le, min, ℤ, Bool, true, not, List, [], ◌∷◌, length, map, Option, None, Some, option_map}
use Rattle.std.specs.List.{AllByRecursion}
use Rattle.json.specs.Print.{quoted}
use Rattle.serde_json.specs.Data.{Data}
use Rattle.serde_json.specs.Written.{compact_text}
use Rattle.kv_model.specs.declared.version.Version.{Version}
use Rattle.kv_model.specs.Answers.{bytes_text, event_text, key_value_text, lease_text, version_text}
use Rattle.kv_model.specs.History.{KeyValue, key_value}
use Rattle.range_view.specs.declared.reply.KvRef.{KvRef}
use Rattle.range_view.specs.declared.reply.OpReply.{OpReply, fold-OpReply}
use Rattle.range_view.specs.declared.reply.OpReply.TheOpen.{OpReply-F}
use Rattle.range_view.specs.Replies.{kv_view}
use Rattle.watch_hub.specs.declared.message.Event.{Event}
use Rattle.watch_hub.specs.Messages.{event_view}

abbrev pub total : List ℕ → ℕ
total [] = 0
total (n ∷ ns) = n + total ns

-- a key-value: twice its bytes, and its names and numbers
abbrev pub most_of_kv : KeyValue → ℕ
most_of_kv kv = 2 * (length kv.key + length kv.value) + 176

-- that of a key-value, or so much where there is none
abbrev pub most_or : ℕ → Option KeyValue → ℕ
most_or n None = n
most_or n (Some kv) = most_of_kv kv

abbrev pub most_of_lent : KvRef → ℕ
most_of_lent kv = most_of_kv (kv_view kv)

abbrev pub most_of_kvs : List KvRef → ℕ
most_of_kvs kvs = total (map most_of_lent kvs)

-- a version in an event: a key-value, or the key of a tombstone
abbrev pub most_of_version : Version → ℕ
most_of_version v = most_or (2 * length v.key + 25) (key_value v)

abbrev pub most_of_event : Event → ℕ
most_of_event e = most_of_version e.version.now + most_or 0 (option_map kv_view e.previous) + 64

-- a key in a list
abbrev pub most_of_key : List ℕ → ℕ
most_of_key k = 2 * length k + 32

-- what an operation of a transaction is answered, those within measured already
abbrev pub most_of_step : OpReply-F ℕ → ℕ
most_of_step (OpReply-F.Range r) = 142 + most_of_kvs r.kvs.items
most_of_step (OpReply-F.Put held) = 142 + most_or 0 (option_map kv_view held)
most_of_step (OpReply-F.Delete deleted previous) = 142 + most_of_kvs previous.items
most_of_step (OpReply-F.Inner succeeded replies) = 142 + total replies.items

abbrev pub most_of_reply : OpReply → ℕ
most_of_reply = fold-OpReply ℕ most_of_step

-- ---- from below: what is written has its room

-- all that a number of bytes can tell
abbrev pub most_bytes : ℕ
most_bytes = 2 ^ 64 - 1

-- room for so many bytes, or all that can be told
abbrev pub Holds : ℕ → ℕ → Type 0
Holds room n = min n most_bytes ≤ room

abbrev pub text_len : Data → ℕ
text_len d = length (compact_text d)

-- a member, with the comma before it or the brace behind it; nothing where it is left out
abbrev pub member_len : List ℕ → Option Data → ℕ
member_len name None = 0
member_len name (Some d) = length (quoted name) + 2 + text_len d

-- a key-value in a list, with the comma before it
abbrev pub kv_len : KvRef → ℕ
kv_len kv = 1 + text_len (key_value_text (kv_view kv))

-- what was held before, if anything was
abbrev pub held_len : Option KvRef → ℕ
held_len None = 0
held_len (Some kv) = kv_len kv

-- a key and a lease in a list
abbrev pub key_len : List ℕ → ℕ
key_len k = 1 + text_len (bytes_text k)

abbrev pub lease_len : ℤ → ℕ
lease_len id = 1 + text_len (lease_text id)

-- a version in an event, and an event in a list
abbrev pub version_len : Version → ℕ
version_len v = text_len (version_text v (key_value v))

abbrev pub event_len : Event → ℕ
event_len e = 1 + text_len (event_text (event_view e))

-- a byte that stands in a string as it is
abbrev pub is_plain : ℕ → Bool
is_plain b = nat_le 32 b && not (b == 34) && not (b == 92)

abbrev pub ArePlain : List ℕ → Type 0
ArePlain = AllByRecursion (λ b. is_plain b ≡ true)

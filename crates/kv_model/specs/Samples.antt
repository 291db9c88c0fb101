-- Small commands and what they tell, as the worked rows write them.
use Rattle.std.specs.Prelude.{ℕ, ℤ, pos, List, [], ◌∷◌, Bool, false, None, Ok, Err, codes}
use Rattle.kv_model.specs.declared.version.Rev.{Rev}
use Rattle.kv_model.specs.declared.version.Version.{Version}
use Rattle.kv_model.specs.declared.version.Body.TheVariants.{Put, Gone}
use Rattle.kv_model.specs.declared.call.PutRequest.{PutRequest}
use Rattle.kv_model.specs.declared.call.RangeQuery.{RangeQuery}
use Rattle.kv_model.specs.declared.refusal.Refusal.{Refusal}
use Rattle.kv_model.specs.Keys.{one_key, all_keys}
use Rattle.kv_model.specs.History.{KeyValue}
use Rattle.kv_model.specs.Ranges.{plain_range}
use Rattle.kv_model.specs.Watches.{WatchEvent}
use Rattle.kv_model.specs.Calls.{Call}
use Rattle.kv_model.specs.Watches.{Delivery}
use Rattle.kv_model.specs.World.{opening}
use Rattle.kv_model.specs.Told.{Reply}
use Rattle.kv_model.specs.SampleRuns.{Event, Told, told_by, world_after}

-- ---- keys and values

abbrev pub a : List ℕ
a = codes "a"

abbrev pub b : List ℕ
b = codes "b"

abbrev pub c : List ℕ
c = codes "c"

abbrev pub x : List ℕ
x = codes "x"

abbrev pub y : List ℕ
y = codes "y"

abbrev pub one : List ℕ
one = codes "1"

abbrev pub two : List ℕ
two = codes "2"

-- ---- events

abbrev pub put_of : List ℕ → List ℕ → PutRequest
put_of k v = record { key = k; value = v; lease = pos 0; prev_kv = false; ignore_value = false; ignore_lease = false }

abbrev pub put_event : List ℕ → List ℕ → Event
put_event k v = Event.command (Call.put (put_of k v))

abbrev pub delete_event : List ℕ → Event
delete_event k = Event.command (Call.delete (record { range = one_key k; prev_kv = false }))

abbrev pub range_event : RangeQuery → Event
range_event q = Event.command (Call.range q)

-- a Range of all keys, at the present revision
abbrev pub all_query : RangeQuery
all_query = record (plain_range a 0) { range = all_keys }

abbrev pub watch_event : List ℕ → ℤ → Bool → Event
watch_event k start prev = Event.command (Call.watch (record {
  range = one_key k;
  no_put = false;
  no_delete = false;
  prev_kv = prev;
}) start (pos 0))

abbrev pub compact_event : ℤ → Event
compact_event r = Event.command (Call.compact r false)

-- ---- what is told

abbrev pub told : ℕ → Reply → Told
told r reply = Told.answer (Ok (record { reply = reply; revision = r }))

abbrev pub refused : Refusal → Told
refused e = Told.answer (Err e)

abbrev pub put_reply : ℕ → Told
put_reply r = told r (Reply.put None)

abbrev pub kv_of : List ℕ → List ℕ → ℕ → ℕ → ℕ → KeyValue
kv_of k v create modified version = record {
  key = k;
  value = v;
  create = create;
  modified = modified;
  version = version;
  lease = pos 0;
}

abbrev pub found : ℕ → List KeyValue → ℕ → Bool → Told
found r kvs count more = told r (Reply.range (record { kvs = kvs; count = count; more = more; revision = r }))

abbrev pub told_events : ℕ → List WatchEvent → Told
told_events r es = Told.delivery (Delivery.events es) r

-- what events tell after others
abbrev pub told_after : List Event → List Event → List Told
told_after before es = told_by (world_after opening before) es

-- ---- versions

abbrev pub rev_at : ℕ → Rev
rev_at main = record { main = main; sub = 0 }

abbrev pub put_version : ℕ → List ℕ → ℕ → ℕ → List ℕ → Version
put_version main k create version v = record { rev = rev_at main; key = k; body = Put create version (pos 0) v }

abbrev pub gone_version : ℕ → List ℕ → Version
gone_version main k = record { rev = rev_at main; key = k; body = Gone }

-- ---- stores that several rows begin with

-- four puts, to revision 5
abbrev pub puts : List Event
puts = put_event a one ∷ put_event b one ∷ put_event c one ∷ put_event b two ∷ []

abbrev pub put_delete_put : List Event
put_delete_put = put_event a one ∷ delete_event a ∷ put_event a two ∷ []

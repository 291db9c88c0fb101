-- A Range that is read in parts: what is gathered of them, and what comes of that.
use Rattle.std.specs.Prelude.{◌≡◌, ℕ, zero, suc, ◌<◌, ◌≤◌, ◌^◌, ℤ, pos, negsuc, List, [], ◌++◌, length, map, filter, Bool, true, false, Option, None, Some, Ok, IfSome, ⊤}
use Rattle.std.specs.Prelude.{int_le}
use mathlib.Core.List.{IsPrefix}
use Rattle.kv_model.specs.declared.ids.Ids.{Ids}
use Rattle.kv_model.specs.declared.version.KeyRange.{KeyRange}
use Rattle.kv_model.specs.declared.call.RangeQuery.{RangeQuery}
use Rattle.kv_model.specs.declared.call.SortOrder.TheVariants.{Unsorted}
use Rattle.kv_model.specs.declared.call.SortTarget.TheVariants.{ByKey}
use Rattle.kv_model.specs.Answers.{success_response}
use Rattle.kv_model.specs.History.{KeyValue, end_of}
use Rattle.kv_model.specs.Lists.{is_empty}
use Rattle.kv_model.specs.Ranges.{live, passes_filters, range_refusal, range_reply, stripped}
use Rattle.kv_model.specs.Told as told
use Rattle.kv_model.specs.World.{World, revision, versions}
use Rattle.event_book.specs.Events.{Entry, led_to}
use Rattle.range_view.specs.declared.reply.RangeReply.{RangeReply}
use Rattle.range_view.specs.Replies.{kv_view}
use Rattle.range_view.specs.Selecting.{keeps_order}
use Rattle.snapshot_feed.specs.Answers.{AnswersOf}
use Rattle.store_laws.specs.Changes.{untrimmed}
use Rattle.gateway_text.specs.RangeParts.{IsRangeText}
use Rattle.engine_lock.specs.Locked.{Caller}
use Rattle.long_ranges.specs.declared.gathered.Gathered.{Gathered}
use Rattle.long_ranges.specs.declared.gathered.Gathered.TheVariants as gathered
use Rattle.long_ranges.specs.declared.begin.Begun.{Begun}
use Rattle.long_ranges.specs.Laws.{IsCut, below, from}

-- ---- which Ranges

-- one of several keys that asks for all of them, or of those that pass its filters, in their order
pub record IsOfMany (q : RangeQuery) : Type 0 where
  pub several : is_empty q.range.end ≡ false
  pub all : int_le q.limit (pos 0) ≡ true
  pub in_order : keeps_order q.order q.target ≡ true
  pub shows : q.count_only ≡ false

-- ---- what is live, and what it shows

-- what was live in a range at the end of a revision, in the world that a front of the events leads to
abbrev pub live_at : List Entry → ℕ → KeyRange → List KeyValue
live_at front r range = live (versions (led_to front)) (end_of r) range

-- the same of what is left of a range
abbrev pub live_left : List Entry → ℕ → Option KeyRange → List KeyValue
live_left front r None = []
live_left front r (Some rest) = live_at front r rest

-- what such a Range shows of live keys
abbrev pub shown : RangeQuery → List KeyValue → List KeyValue
shown q kvs = map (stripped q.keys_only) (filter (passes_filters q) kvs)

-- ---- what is gathered

-- how many these are; or what the answer shows of them, whose text has this revision and this count
abbrev pub IsGathered : Ids → ℕ → ℕ → RangeQuery → List KeyValue → Gathered → Type 0
IsGathered ids now count q seen (gathered.Count n) = n ≡ length seen
IsGathered ids now count q seen (gathered.Text t) = IsRangeText ids now count (shown q seen) t

abbrev pub is_count : Gathered → Bool
is_count (gathered.Count n) = true
is_count (gathered.Text t) = false

-- what is asked of a part that a text is to show
abbrev pub Shows : Gathered → Type 0 → Type 0
Shows (gathered.Count n) P = ⊤
Shows (gathered.Text t) P = P

-- what is left is of several keys
abbrev pub IsOfSeveral : Option KeyRange → Type 0
IsOfSeveral left = IfSome left (λ n. is_empty n.end ≡ false)

-- Whatever answers this Range in a world shows these live keys, or, where a count alone is gathered, how many they are.
abbrev pub IsShownBy : World → RangeQuery → Gathered → RangeQuery → List KeyValue → Type 0
IsShownBy w asked g q part = (r : RangeReply) → AnswersOf (untrimmed w) asked (Ok r)
    → (r.count ≡ length part) × Shows g (map kv_view r.kvs.items ≡ shown q part)

-- A part of what was live in a range was gathered behind what was seen, and what is left of the range is as it was.
pub record Reads (front : List Entry) (r : ℕ) (rest : KeyRange) (Is : List KeyValue → Type 0) (seen : List KeyValue) (left : Option KeyRange) : Type 0 where
  pub part : List KeyValue
  pub whole : part ++ live_left front r left ≡ live_at front r rest
  pub gathered : Is (seen ++ part)

-- What was live in a range was gathered, up to what is left of it.
pub record SoFar (front : List Entry) (r : ℕ) (range : KeyRange) (Is : List KeyValue → Type 0) (left : Option KeyRange) : Type 0 where
  pub seen : List KeyValue
  pub gathered : Is seen
  pub whole : seen ++ live_left front r left ≡ live_at front r range

-- ---- how it begins, and what is asked of each part

-- a Range with this revision reads at the end of that one, or of the present one
abbrev pub IsAskedFor : ℤ → ℕ → Begun → Type 0
IsAskedFor (pos zero) now b = b.revision ≡ now
IsAskedFor (pos (suc n)) now b = b.revision ≡ suc n
IsAskedFor (negsuc n) now b = b.revision ≡ now

-- A Range has begun: it is not refused in the world that this front leads to, whose revision is the one that it shows, and it
-- reads at the end of the other.
pub record HasBegun (front : List Entry) (q : RangeQuery) (b : Begun) : Type 0 where
  pub many : IsOfMany q
  pub now : b.now ≡ revision (led_to front)
  pub asked : IsAskedFor q.revision b.now b
  pub happened : b.revision ≤ b.now
  pub some : 0 < b.revision
  pub fits : b.revision < 2 ^ 63
  pub allowed : range_refusal (led_to front).compacted b.now q ≡ None

-- a part of a Range, at this revision: how many live keys it has, or what they hold, too
abbrev pub part_of : RangeQuery → KeyRange → ℤ → Bool → RangeQuery
part_of q range at count_only = record {
  range = range;
  limit = pos 0;
  revision = at;
  order = Unsorted;
  target = ByKey;
  serializable = q.serializable;
  keys_only = q.keys_only;
  count_only = count_only;
  min_mod = q.min_mod;
  max_mod = q.max_mod;
  min_create = q.min_create;
  max_create = q.max_create;
}

-- a range is cut at one of its keys, or is one part
abbrev pub IsCutInto : KeyRange → KeyRange → Option KeyRange → Type 0
IsCutInto range part None = part ≡ range
IsCutInto range part (Some rest) = (k : List ℕ) × IsCut range k × (part ≡ below range k) × (rest ≡ from range k)

-- ---- all of it

-- the text of an answer that shows so much of these
abbrev pub text_of : Ids → ℕ → ℕ → RangeQuery → List KeyValue → List ℕ
text_of ids now count q seen = (success_response ids (record {
  reply = told.Reply.range (record { kvs = shown q seen; count = count; more = false; revision = now });
  revision = now;
})).body

-- The client read a Range in parts: its text is that of the model's answer in the world that a front of the events leads to,
-- which begins with all that the client knew of; and it knows of that front, and of what it saw later.
pub record ReadsInParts (ids : Ids) (c : Caller) (q : RangeQuery) (text : List ℕ) (later : Caller) : Type 0 where
  pub front : List Entry
  pub begins : IsPrefix c.reader.known front
  pub goes_on : IsPrefix front later.reader.known
  pub allowed : range_refusal (led_to front).compacted (revision (led_to front)) q ≡ None
  pub says : text ≡ (success_response ids (record {
    reply = told.Reply.range (range_reply (versions (led_to front)) (revision (led_to front)) (end_of (revision (led_to front))) q);
    revision = revision (led_to front);
  })).body

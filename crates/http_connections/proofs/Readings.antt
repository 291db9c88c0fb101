-- What a client reads beside the engine, as a response.
use Rattle.std.proofs.Common.{◌≡◌, ◌⊎◌, inl, inr, Bool, true, false, cond, ℕ, List, [], Option, None, Some, Result, Ok, Err, refl, sym, ◌∙◌, ap, subst}
use Rattle.std.proofs.lemmas.List.{append-nil}
use Rattle.std.specs.declared.alloc.Global.{Global}
use mathlib.Core.List.{IsPrefix}
use Rattle.std.specs.Prelude.{IfSome, IfNone, MatchBool, Vec}
use Rattle.kv_model.specs.declared.ids.Ids.{Ids}
use Rattle.kv_model.specs.declared.call.Command.{Command}
use Rattle.kv_model.specs.declared.call.Command.TheVariants as commands
use Rattle.kv_model.specs.declared.call.RangeQuery.{RangeQuery}
use Rattle.kv_model.specs.declared.refusal.Refusal.{Refusal}
use Rattle.kv_model.specs.declared.refusal.Refusal.TheVariants.{Memory}
use Rattle.kv_model.specs.Answers.{fault_of, success_response}
use Rattle.kv_model.specs.Ranges as ranges
use Rattle.kv_model.specs.Told as model
use Rattle.kv_model.specs.History.{KeyValue, end_of}
use Rattle.kv_model.specs.World.{revision, versions}
use Rattle.store_laws.specs.Changes.{untrimmed}
use Rattle.store_laws.specs.Snapshots.{Untrimmed}
use Rattle.event_book.specs.Events.{Entry, led_to}
use Rattle.event_book.proofs.Prefixes.{prefix_trans}
use Rattle.long_ranges.specs.Parts.{ReadsInParts}
use Rattle.range_view.specs.declared.reply.RangeReply.{RangeReply}
use Rattle.range_view.specs.Replies.{reply_view}
use Rattle.request_core.specs.Answers.{is_memory}
use Rattle.snapshot_feed.specs.Answers.{AnswersOf}
use Rattle.json_gateway.specs.declared.outcome.Outcome.{Outcome}
use Rattle.json_gateway.specs.declared.outcome.Settled.{Settled}
use Rattle.json_gateway.specs.declared.outcome.Settled.TheVariants as settled
use Rattle.json_gateway.specs.declared.outcome.ReplyBody.TheVariants as body
use Rattle.json_gateway.specs.Endings.{Refuses}
use Rattle.engine_lock.specs.Entering as lock
use Rattle.engine_lock.specs.Locked.{Caller, knowing, left}
use Rattle.http_connections.specs.Engines.{Begins, CatchesUp, IsAnswer, Looks, LooksUp, Reads, ReadsOn, SettlesAs, Starts, Stays}
use Rattle.http_connections.specs.Engines.{answer_over, response_over}

-- the reader's answer is the model's, or memory was wanting
pub is_answer : (u : Untrimmed) (q : RangeQuery) (r : Result RangeReply Refusal) → AnswersOf u q r → IsAnswer (answer_over u q) r
is_answer u q (Ok r) h = h
is_answer u q (Err e) h = h

-- a reply's text is its response
pub text_is : (ids : Ids) (r : RangeReply) (body : List ℕ) (told : Result ranges.RangeReply Refusal) → told ≡ Ok (reply_view r)
    → body ≡ (success_response ids (record { reply = model.Reply.range (reply_view r); revision = r.revision })).body
    → record { status = 200; body = body } ≡ response_over ids told
text_is ids r body told t e = (λ i. record { status = 200; body = e i }) ∙ ap (response_over ids) (sym t)

-- and a refusal's text is its response
pub declined_is : (ids : Ids) (s : Settled) (e : Refusal) (told : Result ranges.RangeReply Refusal) → Refuses s (is_memory e) (fault_of e)
    → (e ≡ Memory) ⊎ (told ≡ Err e) → SettlesAs (response_over ids told) s
declined_is ids (settled.Reply r) e told h (inl m) = let bad : true ≡ false = sym (ap is_memory m) ∙ h.0 in cc
declined_is ids (settled.Reply r) e told h (inr t) = h.1 ∙ ap (response_over ids) (sym t)
declined_is ids settled.Memory e told h t = tt
declined_is ids (settled.Lost n) e told h t = absurd h

-- one that was to catch up
pub caught : (ids : Ids) (recorded : Bool) (At : ℕ → Type 0) (c d : Caller) (now : ℕ) (b : Bool) → At now → recorded ≡ false → lock.CatchesUp ids c now b d
    → MatchBool b ((recorded ≡ false) × CatchesUp ids At true c d) (Stays ids At c d)
caught ids recorded At c d now true at unwritten h = (unwritten, (now, at, h))
caught ids recorded At c d now false at unwritten h = record { from = d; caught = inr (false, (now, at, h)); reads = inl refl }

-- one that left its reading
pub left_now : (ids : Ids) (At : ℕ → Type 0) (c d : Caller) → d ≡ left c → Stays ids At c d
left_now ids At c d h = record { from = d; caught = inl (ap left h); reads = inl refl }

-- one that was to read then, and did not, or not to the end
pub stays : (ids : Ids) (recorded : Bool) (At : ℕ → Type 0) (s : Bool) (c d e : Caller) → Begins ids recorded At s c d → ReadsOn d d.reader.known e → Stays ids At c e
stays ids recorded At s c d e b r = record { from = d; caught = begun s b; reads = inr r }
  where
    begun : (s : Bool) → Begins ids recorded At s c d → (left d ≡ left c) ⊎ ((told : Bool) × CatchesUp ids At told c d)
    begun true b = inl (ap left b)
    begun false b = inr (true, b.1)

-- a Range that was read
pub looks_as : (ids : Ids) (recorded : Bool) (At : ℕ → Type 0) (c d : Caller) (q : RangeQuery) (command : Command) (r : Option Outcome) → command ≡ commands.Range q
    → IfSome r (λ o. LooksUp ids recorded At c q o d) → IfSome r (λ o. Looks ids recorded At c command o d)
looks_as ids recorded At c d q command None is h = tt
looks_as ids recorded At c d q command (Some o) is h = (q, is, h)

-- so a Range that has to be submitted
pub starts_as : (ids : Ids) (At : ℕ → Type 0) (command : Command) (q : RangeQuery) (c d : Caller) (r : Option Outcome) → command ≡ commands.Range q
    → IfNone r (Stays ids At c d) → IfNone r (Starts ids At command c d)
starts_as ids At command q c d (Some o) is h = tt
starts_as ids At command q c d None is h = inr (q, is, h)

-- ---- a Range that is read in parts

-- a client that has read on, and left its reading
pub reads_on : (c d : Caller) (front : List Entry) → IsPrefix front d.reader.known → d ≡ left (record c { reader = d.reader }) → d.reader.book ≡ c.reader.book
    → ReadsOn c front d
reads_on c d front p h b = record {
  known = d.reader.known;
  begins = p;
  client = h ∙ (λ i. record c { reader = record c.reader { book = b i; known = d.reader.known; inside = false } });
}

-- what is allowed is answered
allowed_is : (o : Option Refusal) (x : ranges.RangeReply) → o ≡ None → ranges.unless_refused o x ≡ Ok x
allowed_is o x e = ap (λ p. ranges.unless_refused p x) e

shows_revision : (q : RangeQuery) (now : ℕ) (kvs : List KeyValue) → (ranges.reply_from q now kvs).revision ≡ now
unfolding ranges.reply_from
shows_revision q now kvs = either q.count_only _ _ refl refl
  where
    either : (b : Bool) (x y : ranges.RangeReply) → x.revision ≡ now → y.revision ≡ now → (cond {A = ranges.RangeReply} b x y).revision ≡ now
    either true x y e f = e
    either false x y e f = f

-- the text of such a Range is its response
pub parts_settle : (ids : Ids) (c : Caller) (q : RangeQuery) (text : List ℕ) (d : Caller) → (r : ReadsInParts ids c q text d)
    → record { status = 200; body = text } ≡ response_over ids (answer_over (untrimmed (led_to r.front)) q)
unfolding ranges.range_reply
parts_settle ids c q text d r =
    let w = led_to r.front in
    let reply = ranges.range_reply (versions w) (revision w) (end_of (revision w)) q in
    (λ i. record { status = 200; body = r.says i })
    ∙ (λ i. success_response ids (record { reply = model.Reply.range reply; revision = sym (shows_revision q (revision w) (ranges.live (versions w) (ranges.read_place q.revision (end_of (revision w))) q.range)) i }))
    ∙ sym (ap (response_over ids) (allowed_is (ranges.range_refusal w.compacted (revision w) q) reply r.allowed))

-- what a client read behind what it had read
pub on_after : (c m d : Caller) (front : List Entry) → m ≡ left (record c { reader = m.reader }) → m.reader.book ≡ c.reader.book → ReadsOn m front d → ReadsOn c front d
on_after c m d front h b r = record {
  known = r.known;
  begins = r.begins;
  client = r.client ∙ ap (λ (x : Caller). knowing x x.holder r.known) h
      ∙ (λ i. record c { reader = record c.reader { book = b i; known = r.known; inside = false } });
}

pub on_from : (c d : Caller) (first front : List Entry) → IsPrefix first front → ReadsOn c front d → ReadsOn c first d
on_from c d first front p r = record { known = r.known; begins = prefix_trans first front r.known p r.begins; client = r.client }

pub reads_after : (ids : Ids) (c m d : Caller) (q : RangeQuery) (o : Outcome) → IsPrefix c.reader.known m.reader.known → m ≡ left (record c { reader = m.reader })
    → m.reader.book ≡ c.reader.book → Reads ids m q o d → Reads ids c q o d
reads_after ids c m d q o p h b r = record {
  front = r.front;
  begins = prefix_trans c.reader.known m.reader.known r.front p r.begins;
  settles = r.settles;
  bare = r.bare;
  client = on_after c m d r.front h b r.client;
}

-- a Range that was read whole
pub reads_whole : (ids : Ids) (c m d : Caller) (q : RangeQuery) (o : Outcome) → IsPrefix c.reader.known m.reader.known → m ≡ record c { reader = m.reader }
    → m.reader.book ≡ c.reader.book → d ≡ left m → SettlesAs (response_over ids (answer_over (untrimmed (led_to m.reader.known)) q)) o.settled
    → (o.raised ≡ None) × (o.watch ≡ None) × (o.waits ≡ false) → Reads ids c q o d
reads_whole ids c m d q o p h b l s bare = record {
  front = m.reader.known;
  begins = p;
  settles = s;
  bare = bare;
  client = record {
    known = m.reader.known;
    begins = ([], append-nil m.reader.known);
    client = l ∙ ap left h ∙ (λ i. record c { reader = record c.reader { book = b i; known = m.reader.known; inside = false } });
  };
}

-- a client that entered, and then read in parts
pub within : (c m d : Caller) → IsPrefix c.reader.known m.reader.known → m ≡ record c { reader = m.reader } → m.reader.book ≡ c.reader.book
    → IsPrefix m.reader.known d.reader.known → d ≡ left (record m { reader = d.reader }) → d.reader.book ≡ m.reader.book
    → IsPrefix c.reader.known d.reader.known × (d ≡ left (record c { reader = d.reader })) × (d.reader.book ≡ c.reader.book)
within c m d p h b q k e = (
  prefix_trans c.reader.known m.reader.known d.reader.known p q,
  k ∙ ap (λ (x : Caller). left (record x { reader = d.reader })) h,
  e ∙ b,
)

-- a Range that was read in parts
pub reads_in_parts : (ids : Ids) (c m d : Caller) (q : RangeQuery) (text : Vec ℕ Global) (s : Settled) (o : Outcome) → IsPrefix c.reader.known m.reader.known
    → m ≡ record c { reader = m.reader } → m.reader.book ≡ c.reader.book → ReadsInParts ids m q text.items d
    → d ≡ left (record m { reader = d.reader }) → d.reader.book ≡ m.reader.book
    → s ≡ settled.Reply (record { status = 200; body = body.Made text }) → o ≡ record { settled = s; raised = None; watch = None; waits = false }
    → Reads ids c q o d
reads_in_parts ids c m d q text s o p h b r k e is out = record {
  front = r.front;
  begins = prefix_trans c.reader.known m.reader.known r.front p r.begins;
  settles = subst (λ (x : Outcome). SettlesAs (response_over ids (answer_over (untrimmed (led_to r.front)) q)) x.settled) (sym out)
      (subst (SettlesAs (response_over ids (answer_over (untrimmed (led_to r.front)) q))) (sym is) (parts_settle ids m q text.items d r));
  bare = (ap (λ (x : Outcome). x.raised) out, ap (λ (x : Outcome). x.watch) out, ap (λ (x : Outcome). x.waits) out);
  client = reads_on c d r.front r.goes_on (k ∙ ap (λ (x : Caller). left (record x { reader = d.reader })) h) (e ∙ b);
}

pub if_some_map : {T : Type 0} (P Q : T → Type 0) → ((x : T) → P x → Q x) → (o : Option T) → IfSome o P → IfSome o Q
if_some_map P Q f None h = tt
if_some_map P Q f (Some x) h = f x h

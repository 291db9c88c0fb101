-- From bytes to bytes: the events of a run, and what they are answered.
use Rattle.std.specs.Prelude.{◌≡◌, ℕ, ℤ, pos, List, Bool, true, false, IsTrue, ◌||◌, ◌&&◌, nat_lt, if◌then◌else◌}
use Rattle.std.specs.Prelude.{is_some, is_none, Option, None, Some, Result, Ok, Err}
use Rattle.kv_model.specs.declared.version.Rev.{Rev}
use Rattle.kv_model.specs.Calls.{Call}
use Rattle.kv_model.specs.World.{World, Watch, revision, watch_at, without_watch, at_moment}
use Rattle.kv_model.specs.Leases.{lease_at}
use Rattle.kv_model.specs.Watches.{deliver as delivered}
use Rattle.kv_model.specs.Told.{Expiry, Trimmed}
use Rattle.kv_model.specs.Step.{Made, made_in, perform, expire as expired, compact_refusal}
use Rattle.kv_model.specs.Requests.{Bad, request_of}
use Rattle.kv_model.specs.declared.ids.Ids.{Ids}
use Rattle.kv_model.specs.Answers.{Response, response_to, refused, fault_of_bad, message_text}
use Rattle.kv_model.specs.Follows as follows
use Rattle.kv_model.specs.Follows.{Outcome}
use Rattle.kv_model.specs.Certificates.{Dump, Claim}

abbrev pub post_call : Ids → World → Result Call Bad → Response × World
post_call ids w (Ok call) = (response_to ids (perform w call).0, (perform w call).1)
post_call ids w (Err e) = (refused (fault_of_bad e), w)

-- the reply to a request, and the world after it
abbrev pub reply_to : Ids → World → List ℕ → List ℕ → Response × World
reply_to ids w path body = post_call ids w (request_of path body)

abbrev pub client_id : Option Watch → ℤ
client_id None = pos 0
client_id (Some w) = w.id

-- the message to the watch of this number, if there is one
abbrev pub message_to : Ids → World → ℕ → Option (List ℕ)
message_to ids w n = message_text ids (revision w) (client_id (watch_at w.watches n)) (delivered w n).0

-- ---- events

pub data WireEvent : Type 0 where
  moment : ℕ → WireEvent
  post : List ℕ → List ℕ → WireEvent
  deliver : ℕ → WireEvent
  close : ℕ → WireEvent
  expire : WireEvent
  trim : WireEvent
  certify : WireEvent

-- What an event is answered. With a reply come the new revision, where it rose, and the number of a watch that was
-- made. A trimming step that is done has a certificate of what is kept, or none where no memory was found for it.
pub data WireTold : Type 0 where
  clock : ℕ → WireTold
  reply : Response → Option ℕ → Option ℕ → WireTold
  no_watch : WireTold
  nothing : WireTold
  message : List ℕ → WireTold
  closed : Bool → WireTold
  expiry : Expiry → WireTold
  removed : Rev → WireTold
  kept : Rev → WireTold
  done : ℕ → Option (List Claim) → WireTold
  certified : Dump → List Claim → WireTold
  untold : WireTold

-- a trimming step, as it is told
abbrev pub trim_told : Trimmed → Option (List Claim) → WireTold
trim_told (Trimmed.removed p) certificate = WireTold.removed p
trim_told (Trimmed.kept p) certificate = WireTold.kept p
trim_told (Trimmed.done n) certificate = WireTold.done n certificate

-- what stands of a command whose answer was lost: the revision after it, where it rose, and the number of a watch made
pub record Loss : Type 0 where
  pub revision : ℕ
  pub raised : Option ℕ
  pub watch : Option ℕ

-- ---- steps

abbrev pub number_made : World → World → Option ℕ
number_made w u = if nat_lt w.made u.made then Some u.made else None

abbrev pub raised : World → World → Option ℕ
raised w u = if nat_lt (revision w) (revision u) then Some (revision u) else None

abbrev pub tell_reply : World → Response × World → WireTold × World
tell_reply w p = (WireTold.reply p.0 (raised w p.1) (number_made w p.1), p.1)

abbrev pub tell_message : Bool → Option (List ℕ) → WireTold
tell_message stands (Some text) = WireTold.message text
tell_message true None = WireTold.nothing
tell_message false None = WireTold.no_watch

-- one event: what is told, and the world after it; trimming and certifying change nothing, and what they tell goes by
-- what is kept
abbrev pub wire_step : Ids → World → WireEvent → WireTold × World
wire_step ids w (WireEvent.moment m) = (WireTold.clock (at_moment w m).clock, at_moment w m)
wire_step ids w (WireEvent.post path body) = tell_reply w (reply_to ids w path body)
wire_step ids w (WireEvent.deliver n) = (
  tell_message (is_some (watch_at w.watches n)) (message_to ids w n),
  (delivered w n).1,
)
wire_step ids w (WireEvent.close n) = (
  WireTold.closed (is_some (watch_at w.watches n)),
  record w { watches = without_watch n w.watches },
)
wire_step ids w WireEvent.expire = (WireTold.expiry (expired w).0, (expired w).1)
wire_step ids w WireEvent.trim = (WireTold.untold, w)
wire_step ids w WireEvent.certify = (WireTold.untold, w)

-- ---- runs

-- what is told goes by what is kept
abbrev pub is_free : WireEvent → Bool
is_free WireEvent.trim = true
is_free WireEvent.certify = true
is_free _ = false

-- the clock, the end of a watch and a trimming step take no memory
abbrev pub takes_memory : WireEvent → Bool
takes_memory (WireEvent.moment m) = false
takes_memory (WireEvent.close n) = false
takes_memory WireEvent.trim = false
takes_memory _ = true

-- a command that is accepted changes something besides the history
abbrev pub changes_beside : World → Call → Bool
changes_beside w (Call.compact r physical) = true
changes_beside w (Call.watch watched start id) = true
changes_beside w (Call.grant ttl id) = true
changes_beside w (Call.revoke id) = true
changes_beside w (Call.keep_alive id) = is_some (lease_at w.leases id)
changes_beside w _ = false

abbrev pub loss_of : World → World → Loss
loss_of w u = record { revision = revision u; raised = raised w u; watch = number_made w u }

-- the command is accepted and changes the world, with this loss
abbrev pub IsChange : World → Call → Loss → Made → Type 0
IsChange w call l (Err e) = ⊥
IsChange w call l (Ok made) = IsTrue (nat_lt (revision w) (revision made.1) || changes_beside w call)
    × (l ≡ loss_of w made.1)

abbrev pub IsChangeBy : World → Loss → Result Call Bad → Type 0
IsChangeBy w l (Ok call) = IsChange w call l (made_in w call)
IsChangeBy w l (Err e) = ⊥

-- only a command that changed the world may lose its answer
abbrev pub MayLose : World → WireEvent → Loss → Type 0
MayLose w (WireEvent.post path body) l = IsChangeBy w l (request_of path body)
MayLose w _ l = ⊥

abbrev pub WireOutcome : Type 0
WireOutcome = Outcome Loss WireTold

-- the outcomes of a run are those of the whole history
abbrev pub Follows : Ids → List WireEvent → List WireOutcome → Type 0
Follows ids = follows.Follows (wire_step ids) is_free takes_memory MayLose

abbrev pub is_physical_call : World → Result Call Bad → Bool
is_physical_call w (Ok (Call.compact r physical)) = physical && is_none (compact_refusal w.compacted (revision w) r)
is_physical_call w _ = false

-- an accepted Compact that waits for trimming
abbrev pub is_physical : World → WireEvent → Bool
is_physical w (WireEvent.post path body) = is_physical_call w (request_of path body)
is_physical w _ = false

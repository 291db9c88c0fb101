-- What a command or a request comes to on a core: what is told of it, and what the core then stands for.
use Rattle.std.specs.Prelude.{◌≡◌, ℕ, ◌+◌, ◌%◌, ◌^◌, ◌||◌, nat_lt, Bool, true, false, if◌then◌else◌, Option, Result, Ok, Err, ⊤}
use Rattle.std.specs.Prelude.{Vec}
use Rattle.std.specs.declared.alloc.AllocError.{AllocError}
use Rattle.std.specs.declared.alloc.Global.{Global}
use Rattle.kv_model.specs.declared.refusal.Refusal.{Refusal}
use Rattle.kv_model.specs.declared.refusal.Refusal.TheVariants as refusal
use Rattle.kv_model.specs.Answers.{Response, Fault, refused, fault_of, fault_of_bad}
use Rattle.kv_model.specs.Requests as requests
use Rattle.kv_model.specs.Calls.{Call}
use Rattle.kv_model.specs.Told.{Trimmed}
use Rattle.kv_model.specs.World.{World, revision}
use Rattle.kv_model.specs.Step.{Made, made_in}
use Rattle.kv_model.specs.Wire.{Loss, raised, number_made, changes_beside}
use Rattle.kv_model.specs.Headline.{kept_after}
use Rattle.store_laws.specs.Stands.{StandsFor}
use Rattle.gateway_read.specs.declared.bad.Bad.{Bad}
use Rattle.gateway_read.specs.declared.bad.Bad.TheVariants.{NotJson, BadField, BadBase64, NoPath, TooLong, Memory}
use Rattle.gateway_read.specs.Fields.{snake_of}
use Rattle.request_core.specs.Answers.{is_memory}
use Rattle.request_core.specs.State.{CoreState, keeping_of}
use Rattle.json_gateway.specs.declared.outcome.ReplyBody.TheVariants as body
use Rattle.json_gateway.specs.declared.outcome.Settled.{Settled}
use Rattle.json_gateway.specs.declared.outcome.Settled.TheVariants as settled
use Rattle.json_gateway.specs.declared.outcome.Outcome.{Outcome}
use Rattle.json_gateway.specs.Outcomes.{response_of}

-- an accepted command changes the world, in its history or beside it
abbrev pub is_change : World → Call → Made → Bool
is_change w call (Ok made) = nat_lt (revision w) (revision made.1) || changes_beside w call
is_change w call (Err e) = false

abbrev pub is_change_by : World → Result Call requests.Bad → Bool
is_change_by w (Ok call) = is_change w call (made_in w call)
is_change_by w (Err e) = false

-- a trimming step found nothing to visit
abbrev pub is_done : Trimmed → Bool
is_done (Trimmed.removed p) = false
is_done (Trimmed.kept p) = false
is_done (Trimmed.done n) = true

-- a Compact, where it is accepted, is answered once trimming is done
abbrev pub is_physical : Call → Bool
is_physical (Call.compact r physical) = physical
is_physical _ = false

-- a change is one changing call, and where nothing has changed the core is as it was
abbrev pub IsCounted : Bool → CoreState → CoreState → Type 0
IsCounted true old new = new.stamp ≡ (old.stamp + 1) % 2 ^ 64
IsCounted false old new = new ≡ old

-- An accepted command ends with this answer, or, where no memory was found for it, by whether it changed the store,
-- which is at this revision since.
abbrev pub Settles : Settled → Response → Bool → ℕ → Type 0
Settles (settled.Reply r) answer changed now = response_of r ≡ answer
Settles settled.Memory answer changed now = changed ≡ false
Settles (settled.Lost revision) answer changed now = (changed ≡ true) × (revision ≡ now)

-- ---- by what was made, if memory was found for it

-- an accepted command whose answer found no memory: it is lost where the store has changed, which is at this revision
abbrev pub unanswered : Bool → ℕ → Settled
unanswered changed now = if changed then settled.Lost now else settled.Memory

-- an accepted command, by the body of its answer
abbrev pub answered : Result (Vec ℕ Global) AllocError → Bool → ℕ → Settled
answered (Ok bytes) changed now = settled.Reply (record { status = 200; body = body.Made bytes })
answered (Err e) changed now = unanswered changed now

-- a request that is refused, by the body of its refusal
abbrev pub worded : ℕ → Result (Vec ℕ Global) AllocError → Settled
worded status (Ok bytes) = settled.Reply (record { status = status; body = body.Made bytes })
worded status (Err e) = settled.Memory

-- ---- refusals

-- A request that is refused ends with its fault's text, or without memory. The want of memory has no text.
abbrev pub Refuses : Settled → Bool → Fault → Type 0
Refuses (settled.Reply r) is_want fault = (is_want ≡ false) × (response_of r ≡ refused fault)
Refuses settled.Memory is_want fault = ⊤
Refuses (settled.Lost revision) is_want fault = ⊥

-- A command that is refused ends with exactly the status and the bytes of its refusal, whose text is fixed: without
-- memory only where that is the refusal.
abbrev pub Declines : Settled → Refusal → Type 0
Declines (settled.Reply r) e = (is_memory e ≡ false) × (response_of r ≡ refused (fault_of e))
Declines settled.Memory e = is_memory e ≡ true
Declines (settled.Lost revision) e = ⊥

-- what a request that is not read is told
abbrev pub fault_of_reading : Bad → Fault
fault_of_reading NotJson = fault_of_bad requests.not_json
fault_of_reading (BadField f) = fault_of_bad (requests.bad_field (snake_of f))
fault_of_reading (BadBase64 f) = fault_of_bad (requests.bad_base64 (snake_of f))
fault_of_reading NoPath = fault_of_bad requests.no_path
fault_of_reading TooLong = fault_of_bad requests.too_long
fault_of_reading Memory = fault_of refusal.Memory

abbrev pub is_want : Bad → Bool
is_want Memory = true
is_want _ = false

-- What a command or a request came to on a core that stood for a world: it is told this, and that is the world after
-- it. Its answer may be lost as MayBeLost allows; without memory nothing changed.
abbrev pub EndsAs : Settled → Option ℕ → Option ℕ → CoreState → CoreState → World → Response → World
    → (Loss → Type 0) → Type 0
EndsAs (settled.Reply r) up watch old new w told after MayBeLost =
    (response_of r ≡ told) × (up ≡ raised w after) × (watch ≡ number_made w after) × StandsFor new.store after
EndsAs settled.Memory up watch old new w told after MayBeLost = new ≡ old
EndsAs (settled.Lost revision) up watch old new w told after MayBeLost =
    MayBeLost (record { revision = revision; raised = up; watch = watch }) × StandsFor new.store after

abbrev pub Ends : Outcome → CoreState → CoreState → World → Response → World → (Loss → Type 0) → Type 0
Ends o = EndsAs o.settled o.raised o.watch

-- What is kept after it is what was kept and what the world has besides, and an accepted Compact has trimming begin
-- again. Without memory nothing has changed.
abbrev pub KeepsAs : Settled → CoreState → CoreState → World → World → Type 0
KeepsAs (settled.Reply r) old new w after = keeping_of new ≡ kept_after w after (keeping_of old)
KeepsAs settled.Memory old new w after = new ≡ old
KeepsAs (settled.Lost revision) old new w after = keeping_of new ≡ kept_after w after (keeping_of old)

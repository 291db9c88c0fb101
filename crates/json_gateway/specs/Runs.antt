-- What events and outcomes of a run say, in the definitions' terms.
use Rattle.std.specs.Prelude.{ℕ, Option, Result, Ok, Err, ⊤}
use Rattle.std.specs.declared.alloc.AllocError.{AllocError}
use Rattle.kv_model.specs.Told as told
use Rattle.kv_model.specs.Follows as follows
use Rattle.kv_model.specs.Wire as model
use Rattle.kv_model.specs.Wire.{WireTold}
use Rattle.request_core.specs.declared.answer.Expiry.{Expiry}
use Rattle.request_core.specs.declared.answer.Expiry.TheVariants as expiry
use Rattle.json_gateway.specs.declared.outcome.Certified.{Certified}
use Rattle.json_gateway.specs.declared.outcome.Message.{Message}
use Rattle.json_gateway.specs.declared.outcome.Message.TheVariants as message
use Rattle.json_gateway.specs.declared.outcome.Settled.{Settled}
use Rattle.json_gateway.specs.declared.outcome.Settled.TheVariants as settled
use Rattle.json_gateway.specs.declared.outcome.Outcome.{Outcome}
use Rattle.json_gateway.specs.declared.outcome.Trimmed.{Trimmed}
use Rattle.json_gateway.specs.declared.outcome.Trimmed.TheVariants as trimmed
use Rattle.json_gateway.specs.declared.wire.WireEvent.{WireEvent}
use Rattle.json_gateway.specs.declared.wire.WireEvent.TheVariants as event
use Rattle.json_gateway.specs.declared.wire.WireOutcome.{WireOutcome}
use Rattle.json_gateway.specs.declared.wire.WireOutcome.TheVariants as outcome
use Rattle.json_gateway.specs.declared.wire.Unexpired.{Unexpired}
use Rattle.json_gateway.specs.declared.wire.Unexpired.TheVariants as unexpired
use Rattle.json_gateway.specs.Outcomes.{response_of, IsBare}

abbrev pub event_view : WireEvent → model.WireEvent
event_view (event.Moment m) = model.WireEvent.moment m
event_view (event.Post path body) = model.WireEvent.post path.now body.now
event_view event.Expire = model.WireEvent.expire
event_view (event.Deliver n) = model.WireEvent.deliver n
event_view (event.Close n) = model.WireEvent.close n
event_view event.Trim = model.WireEvent.trim
event_view event.Certify = model.WireEvent.certify

-- how a request ended, with the new revision where it rose and the number of a watch made
abbrev pub ending_view : Settled → Option ℕ → Option ℕ → model.WireOutcome
ending_view (settled.Reply r) up watch = follows.Outcome.said (WireTold.reply (response_of r) up watch)
ending_view settled.Memory up watch = follows.Outcome.memory
ending_view (settled.Lost revision) up watch = follows.Outcome.lost (record {
  revision = revision;
  raised = up;
  watch = watch;
})

abbrev pub command_view : Outcome → model.WireOutcome
command_view o = ending_view o.settled o.raised o.watch

-- a step of expiry is refused without memory, or since the revisions are spent
abbrev pub unexpired_view : Unexpired → model.WireOutcome
unexpired_view unexpired.Memory = follows.Outcome.memory
unexpired_view unexpired.RevisionsSpent = follows.Outcome.said (WireTold.expiry told.Expiry.spent)

-- what a step of expiry did
abbrev pub expired_view : Expiry → told.Expiry
expired_view expiry.Nothing = told.Expiry.nothing
expired_view (expiry.Expired id revision raised) = told.Expiry.expired id revision raised

abbrev pub expiry_outcome : Result Expiry Unexpired → model.WireOutcome
expiry_outcome (Ok e) = follows.Outcome.said (WireTold.expiry (expired_view e))
expiry_outcome (Err e) = unexpired_view e

-- what a watch was told
abbrev pub message_view : Message → WireTold
message_view message.NoWatch = WireTold.no_watch
message_view message.Nothing = WireTold.nothing
message_view (message.Text text) = WireTold.message text.items

abbrev pub delivery_outcome : Result Message AllocError → model.WireOutcome
delivery_outcome (Ok m) = follows.Outcome.said (message_view m)
delivery_outcome (Err e) = follows.Outcome.memory

-- what a trimming step did
abbrev pub trimmed_view : Trimmed → WireTold
trimmed_view (trimmed.Removed p) = WireTold.removed p
trimmed_view (trimmed.Kept p) = WireTold.kept p
trimmed_view (trimmed.Done n certificate) = WireTold.done n certificate

-- what is kept, as it is shown
abbrev pub certified_outcome : Result Certified AllocError → model.WireOutcome
certified_outcome (Ok shown) = follows.Outcome.said (WireTold.certified shown.dump shown.certificate)
certified_outcome (Err e) = follows.Outcome.memory

abbrev pub outcome_view : WireOutcome → model.WireOutcome
outcome_view (outcome.Posted o) = command_view o
outcome_view (outcome.Clock clock) = follows.Outcome.said (WireTold.clock clock)
outcome_view (outcome.Expiry made) = expiry_outcome made
outcome_view (outcome.Delivered made) = delivery_outcome made
outcome_view (outcome.Closed stood) = follows.Outcome.said (WireTold.closed stood)
outcome_view (outcome.Trimmed t) = follows.Outcome.said (trimmed_view t)
outcome_view (outcome.Certified shown) = certified_outcome shown

-- where a request was not accepted, no revision rose and no watch was made
abbrev pub IsBareIn : WireOutcome → Type 0
IsBareIn (outcome.Posted o) = IsBare o
IsBareIn _ = ⊤

-- How a request ended: what is written for it, and whether it was accepted.
use Rattle.std.specs.Prelude.{◌≡◌, ◌==◌, ℕ, List, Bool, true, false, None}
use Rattle.kv_model.specs.declared.refusal.Refusal.TheVariants as refusal
use Rattle.kv_model.specs.Answers.{Response, refused, fault_of, lost_fault}
use Rattle.json_gateway.specs.declared.outcome.Reply.{Reply}
use Rattle.json_gateway.specs.declared.outcome.ReplyBody.{ReplyBody}
use Rattle.json_gateway.specs.declared.outcome.ReplyBody.TheVariants as body
use Rattle.json_gateway.specs.declared.outcome.Settled.{Settled}
use Rattle.json_gateway.specs.declared.outcome.Settled.TheVariants as settled
use Rattle.json_gateway.specs.declared.outcome.Outcome.{Outcome}

-- the bytes of a body
abbrev pub body_of : ReplyBody → List ℕ
body_of (body.Made bytes) = bytes.items
body_of (body.Of e) = (refused (fault_of e)).body

abbrev pub response_of : Reply → Response
response_of r = record { status = r.status; body = body_of r.body }

-- what is written for a request that ended so
abbrev pub wire_response : Settled → Response
wire_response (settled.Reply r) = response_of r
wire_response settled.Memory = refused (fault_of refusal.Memory)
wire_response (settled.Lost revision) = refused lost_fault

-- The command was accepted: it was answered with status 200, or its answer was lost. Else nothing was done.
abbrev pub is_accepted : Settled → Bool
is_accepted (settled.Reply r) = r.status == 200
is_accepted settled.Memory = false
is_accepted (settled.Lost revision) = true

-- where nothing was done, no revision rose and no watch was made
abbrev pub IsBare : Outcome → Type 0
IsBare o = is_accepted o.settled ≡ false → (o.raised ≡ None) × (o.watch ≡ None)

-- What goes on beside the connections: trimming, and leases that end.
use Rattle.std.specs.Prelude.{Bool, true, false, Result, Ok, Err}
use Rattle.kv_model.specs.declared.refusal.Refusal.{Refusal}
use Rattle.trim_core.specs.declared.trimmer.Trim.{Trim}
use Rattle.trim_core.specs.Told.{told_of}
use Rattle.request_core.specs.declared.answer.Expiry.{Expiry}
use Rattle.request_core.specs.declared.answer.Expiry.TheVariants as expiry
use Rattle.json_gateway.specs.Endings.{is_done}

-- a trimming step behind which none follows at once
abbrev pub is_last : Result Trim Refusal → Bool
is_last (Ok t) = is_done (told_of t)
is_last (Err e) = true

-- a step of expiry by which a lease has ended
abbrev pub has_ended : Result Expiry Refusal → Bool
has_ended (Ok (expiry.Expired id revision raised)) = true
has_ended _ = false

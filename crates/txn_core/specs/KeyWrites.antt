-- What a put and a delete write at a key.
use Rattle.std.specs.Prelude.{ℕ, ◌+◌, ◌-◌, ◌<◌, ◌≤◌, ◌^◌, min, ℤ, List, Bool, ◌&&◌, ◌||◌, is_none, Option, MatchOption, ⊤}
use Rattle.std.specs.Option.{option_or}
use Rattle.kv_model.specs.declared.version.Rev.{Rev}
use Rattle.kv_model.specs.declared.version.Version.{Version}
use Rattle.kv_model.specs.declared.version.Body.{Body}
use Rattle.kv_model.specs.declared.version.Body.TheVariants.{Put, Gone}
use Rattle.kv_model.specs.declared.call.PutRequest.{PutRequest}
use Rattle.kv_model.specs.declared.refusal.Refusal.{Refusal}
use Rattle.kv_model.specs.declared.refusal.Refusal.TheVariants.{KeyMissing}
use Rattle.kv_model.specs.History.{KeyValue}
use Rattle.kv_model.specs.Ranges.{refuse_if}
use Rattle.kv_model.specs.Txns.{next_body, put_action, put_lease_refusal}

-- ---- a put

-- why it is refused where its key holds this
abbrev pub held_refusal : (ℤ → Bool) → PutRequest → Option KeyValue → Option Refusal
held_refusal granted p held = option_or (refuse_if ((p.ignore_value || p.ignore_lease) && is_none held) KeyMissing)
    (put_lease_refusal granted p)

-- the version that it makes of a key that holds this
abbrev pub put_version : Rev → PutRequest → Option KeyValue → Version
put_version rev p held = record { rev = rev; key = p.key; body = next_body rev.main (put_action p held) held }

-- ---- a delete

abbrev pub tombstone : ℕ → ℕ → List ℕ → Version
tombstone main sub k = record { rev = record { main = main; sub = sub }; key = k; body = Gone }

-- ---- numbers of 64 bits

-- the number after this one, and the greatest of 64 bits where there is none
abbrev pub number_after : ℕ → ℕ
number_after n = min (n + 1) (2 ^ 64 - 1)

-- a body as it is kept: where 64 bits do not hold the count of its puts, the greatest number that they hold is in its place
abbrev pub body_kept : Body → Body
body_kept (Put create version lease value) = Put create (min version (2 ^ 64 - 1)) lease value
body_kept Gone = Gone

-- and the version of it
abbrev pub as_kept : Version → Version
as_kept v = record { rev = v.rev; key = v.key; body = body_kept v.body }

-- ---- how often a key was put

-- a put counts its key's puts, no more than there are revisions
abbrev pub IsCountedTo : ℕ → Body → Type 0
IsCountedTo revision (Put create version lease value) = version ≤ revision
IsCountedTo revision Gone = ⊤

-- one put more of a key that holds this can be counted
abbrev pub CanCount : Option KeyValue → Type 0
CanCount held = MatchOption held (Unit {0}) (λ kv. kv.version + 1 < 2 ^ 64)

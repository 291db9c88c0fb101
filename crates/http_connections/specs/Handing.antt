-- What an engine answers a connection whose streams go on elsewhere.
use Rattle.std.specs.Prelude.{◌≡◌, ℕ, Bool, Option, None, Some, MatchOption}
use Rattle.kv_model.specs.declared.ids.Ids.{Ids}
use Rattle.http_head.specs.Requests.{Asked}
use Rattle.json_gateway.specs.declared.outcome.Outcome.{Outcome}
use Rattle.engine_lock.specs.Locked.{Caller}
use Rattle.engine_lock.specs.declared.engine.Submitted.{Submitted}
use Rattle.http_loop.specs.declared.answering.Told.{Told}
use Rattle.http_loop.specs.declared.answering.Told.TheVariants as told
use Rattle.http_connections.specs.Engines as engines

-- a client, the watch whose stream goes on elsewhere, and the revision behind the last command
pub record Hands : Type 0 where
  pub client : Caller
  pub handed : Option ℕ
  pub revision : ℕ

-- what a request comes to, but for the trimming that its answer waits for
pub record Answers (ids : Ids) (recorded : Bool) (At : ℕ → Type 0) (s : Hands) (a : Asked) (o : Outcome) (t : Hands) : Type 0 where
  pub submitted : Submitted
  pub answers : engines.AnswersFirst ids recorded At s.client a submitted t.client
  pub outcome : o ≡ submitted.outcome
  pub revision : t.revision ≡ submitted.revision
  pub handed : t.handed ≡ s.handed

-- a stream goes on elsewhere at once
abbrev pub Tells : Hands → ℕ → Told → Hands → Type 0
Tells s n told.Away t = t ≡ record s { handed = Some n }
Tells s n _ t = ⊥

-- behind a reply the watch that its request made is ended, unless its stream goes on elsewhere
abbrev pub Finishes : Ids → Hands → Option ℕ → Hands → Type 0
Finishes ids s w t = MatchOption s.handed (engines.Finishes ids s.client w t.client × (t.handed ≡ None)) (λ n. t ≡ s)

-- What ends a stream: a turn behind which it is over, a client that has left, or the server's end.
use Rattle.std.specs.Prelude.{◌≡◌, ◌⊎◌, ℕ, Bool, true, false, Option, None, Some, MatchBool, MatchOption}
use Rattle.kv_model.specs.declared.ids.Ids.{Ids}
use Rattle.watch_streams.specs.Lines.{closed}
use Rattle.watch_streams.specs.Sets.{ChangesOne, IsEnded, LetsGo, SetState, TurnsOf, line_at}
use Rattle.watch_streams.specs.Turns.{is_over}
use Rattle.watch_streams.specs.declared.hearing.Heard.{Heard}
use Rattle.watch_streams.specs.declared.hearing.Heard.TheVariants as heard
use Rattle.watch_streams.specs.declared.turning.Turn.{Turn}

-- the stream of this watch had a turn, and where it is over behind that it was let go, and only there
pub record Serves (ids : Ids) (n : ℕ) (old : SetState) (t : Turn) (new : SetState) : Type 0 where
  pub turned : SetState
  pub turns : TurnsOf ids n old t turned
  pub behind : MatchBool (is_over t) (LetsGo ids n turned new) (new ≡ turned)

-- it had a turn, if it stands
abbrev pub MayTurn : Ids → ℕ → SetState → Option Turn → SetState → Type 0
MayTurn ids n old t new = MatchOption t (new ≡ old) (λ t. TurnsOf ids n old t new)

-- Its last chunk was to go out, if there was memory for that, it had a turn, and was let go.
pub record Parts (ids : Ids) (n : ℕ) (old new : SetState) : Type 0 where
  pub closing : SetState
  pub closes : ChangesOne closed n old closing ⊎ (closing ≡ old)
  pub turn : Option Turn
  pub turned : SetState
  pub turns : MayTurn ids n closing turn turned
  pub goes : LetsGo ids n turned new

-- its client was heard, and where it has left, the stream has parted, and only there
abbrev pub Hears : Ids → Type 0 → ℕ → SetState → Heard → SetState → Type 0
Hears ids Left n old heard.Left new = Left × Parts ids n old new
Hears ids Left n old heard.More new = new ≡ old
Hears ids Left n old heard.Nothing new = new ≡ old

-- only where the server ends something has changed, and this way
abbrev pub AtEnd : Type 0 → Bool → Type 0 → SetState → SetState → Type 0
AtEnd Ends ends Changes old new = MatchBool ends (Ends × Changes) (new ≡ old)

-- the watch was ended of a stream that could not begin, and no stream has changed
pub record Refuses (ids : Ids) (n : ℕ) (old new : SetState) : Type 0 where
  pub lines : new.lines ≡ old.lines
  pub ended : IsEnded ids n old.client new.client

-- What the stream of a watch is told by an engine, on behalf of one of its clients.
use Rattle.std.specs.Prelude.{◌≡◌, ◌⊎◌, ℕ, List, [], Bool, true, false}
use Rattle.kv_model.specs.declared.ids.Ids.{Ids}
use Rattle.kv_model.specs.Follows.Outcome.{memory, said}
use Rattle.kv_model.specs.Wire.{WireOutcome, WireTold}
use Rattle.event_book.specs.Events.{Event}
use Rattle.engine_lock.specs.Entering.{EntersAlone}
use Rattle.engine_lock.specs.Locked.{Caller}
use Rattle.http_reply.specs.Replies.{chunk, last_chunk}
use Rattle.watch_streams.specs.Lines.{LineState, is_out, with_unsent}
use Rattle.watch_streams.specs.declared.telling.Next.{Next}
use Rattle.watch_streams.specs.declared.telling.Next.TheVariants as next

-- the client asked the engine what the watch of this stream is told next, by one event, and this is its outcome
abbrev pub Asks : Ids → Caller → LineState → WireOutcome → Caller → Type 0
Asks ids c l o later = EntersAlone ids c (Event.delivery l.number) o later

-- What came of asking what a stream is told next: it is the engine's message to its watch, which is then to go out and
-- nothing else; or nothing, where the engine said so; or its end, where its watch is no more.
abbrev pub TellsNext : Ids → Caller → LineState → Next → Caller → LineState → Type 0
TellsNext ids c l next.Told later new = (text : List ℕ) × Asks ids c l (said (WireTold.message text)) later
    × (l.unsent ≡ []) × (l.ended ≡ false) × (new ≡ with_unsent (chunk text) l)
TellsNext ids c l next.Ended later new = Asks ids c l (said WireTold.no_watch) later
    × (l.unsent ≡ []) × (l.ended ≡ false) × (new ≡ record l { unsent = last_chunk; ended = true })
TellsNext ids c l next.Quiet later new = Asks ids c l (said WireTold.nothing) later × (new ≡ l)
TellsNext ids c l next.Wanting later new = Asks ids c l memory later × (new ≡ l)
TellsNext ids c l next.Cut later new = (((text : List ℕ) × Asks ids c l (said (WireTold.message text)) later)
    ⊎ Asks ids c l (said WireTold.no_watch) later) × (new ≡ l)
TellsNext ids c l next.Waits later new = ((is_out l ≡ false) ⊎ (l.ended ≡ true)) × (later ≡ c) × (new ≡ l)

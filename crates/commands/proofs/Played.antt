-- The events of lines, made one after the other.
use Rattle.std.proofs.Common.{◌≡◌, ℕ, ◌+◌, List, [], ◌∷◌, ◌++◌, length, map, Bool, true, false, Option, None, Some, Result, Ok, Err, OnOk, IfErr, refl, sym, ap, ◌∙◌, subst, arith, append_assoc, true≢false, length-append}
use Rattle.std.proofs.lemmas.List.{append-nil, map-append}
use Rattle.kv_model.specs.Follows as follows
use Rattle.kv_model.specs.Wire.{WireEvent, WireOutcome}
use Rattle.commands.specs.declared.fault.Fault.{Fault}
use Rattle.commands.specs.declared.fault.Fault.TheVariants as fault
use Rattle.commands.specs.Playing.{AreAllEvents, IsFirstWithout, Plays, PlaysLine, PlaysLines, StopsLine, StopsPlaying, is_memory}

-- one event more
plays_more : {S : Type 0} (M : S → WireEvent → WireOutcome → S → Type 0) (es : List WireEvent) (e : WireEvent) (s t u : S) (o : WireOutcome)
    → Plays M es s t → M t e o u → is_memory o ≡ false → Plays M (es ++ e ∷ []) s u
plays_more M [] e s t u o same made none = (o, u, subst (λ y. M y e o u) same made, none, refl)
plays_more M (k ∷ ks) e s t u o (p, m, first, ok, rest) made none = (p, m, first, ok, plays_more M ks e m t u o rest made none)

-- The lines that were played, of all: these events were made, and their number is this.
pub record Played {S : Type 0} (M : S → WireEvent → WireOutcome → S → Type 0) (all left : List (Option WireEvent)) (number : ℕ) (s t : S) : Type 0 where
  pub events : List WireEvent
  pub are : all ≡ map Some events ++ left
  pub counted : number ≡ length events
  pub plays : Plays M events s t

-- none yet
pub none_played : {S : Type 0} (M : S → WireEvent → WireOutcome → S → Type 0) (all : List (Option WireEvent)) (s : S) → Played M all all 0 s s
none_played M all s = record { events = []; are = refl; counted = refl; plays = refl }

-- one line more
pub played_more : {S : Type 0} (M : S → WireEvent → WireOutcome → S → Type 0) (all left later : List (Option WireEvent)) (number : ℕ) (s t u : S) (line : Option WireEvent)
    → Played M all left number s t → left ≡ line ∷ later → PlaysLine M line t u → Played M all later (number + 1) s u
played_more M all left later number s t u None so_far next h = absurd h
played_more M all left later number s t u (Some e) so_far next (o, made, ok) = record {
  events = so_far.events ++ e ∷ [];
  are = so_far.are ∙ ap (λ l. map Some so_far.events ++ l) next ∙ sym (append_assoc (map Some so_far.events) (Some e ∷ []) later)
      ∙ ap (λ l. l ++ later) (sym (map-append Some so_far.events (e ∷ [])));
  counted = ap (λ n. n + 1) so_far.counted ∙ sym (length-append so_far.events (e ∷ []));
  plays = plays_more M so_far.events e s t u o so_far.plays made ok;
}

-- the next line is not played
pub stops_more : {S : Type 0} (M : S → WireEvent → WireOutcome → S → Type 0) (all left later : List (Option WireEvent)) (number : ℕ) (s t u : S) (line : Option WireEvent) (f : Fault)
    → Played M all left number s t → left ≡ line ∷ later → StopsLine M line (number + 1) t f u → StopsPlaying M all s f u
stops_more M all left later number s t u None (fault.NoEvent n) so_far next (counted, same) = (
  so_far.events,
  later,
  so_far.are ∙ ap (λ l. map Some so_far.events ++ l) next,
  counted ∙ ap (λ n. n + 1) so_far.counted,
  subst (λ y. Plays M so_far.events s y) (sym same) so_far.plays,
)
stops_more M all left later number s t u None fault.Arguments so_far next stops = absurd stops
stops_more M all left later number s t u None (fault.Read x) so_far next stops = absurd stops
stops_more M all left later number s t u None fault.Endless so_far next stops = absurd stops
stops_more M all left later number s t u None (fault.Write x) so_far next stops = absurd stops
stops_more M all left later number s t u None fault.Memory so_far next stops = absurd stops
stops_more M all left later number s t u None (fault.Record x) so_far next stops = absurd stops
stops_more M all left later number s t u None (fault.Script x) so_far next stops = absurd stops
stops_more M all left later number s t u None (fault.Unplayed n) so_far next stops = absurd stops
stops_more M all left later number s t u None (fault.Address x) so_far next stops = absurd stops
stops_more M all left later number s t u None (fault.Server x) so_far next stops = absurd stops
stops_more M all left later number s t u (Some e) (fault.Unplayed n) so_far next (counted, made) = (
  so_far.events,
  e,
  later,
  t,
  so_far.are ∙ ap (λ l. map Some so_far.events ++ l) next,
  counted ∙ ap (λ n. n + 1) so_far.counted,
  so_far.plays,
  made,
)
stops_more M all left later number s t u (Some e) fault.Arguments so_far next stops = absurd stops
stops_more M all left later number s t u (Some e) (fault.Read x) so_far next stops = absurd stops
stops_more M all left later number s t u (Some e) fault.Endless so_far next stops = absurd stops
stops_more M all left later number s t u (Some e) (fault.Write x) so_far next stops = absurd stops
stops_more M all left later number s t u (Some e) fault.Memory so_far next stops = absurd stops
stops_more M all left later number s t u (Some e) (fault.Record x) so_far next stops = absurd stops
stops_more M all left later number s t u (Some e) (fault.Script x) so_far next stops = absurd stops
stops_more M all left later number s t u (Some e) (fault.NoEvent n) so_far next stops = absurd stops
stops_more M all left later number s t u (Some e) (fault.Address x) so_far next stops = absurd stops
stops_more M all left later number s t u (Some e) (fault.Server x) so_far next stops = absurd stops

-- no line is left
pub all_played : {S : Type 0} (M : S → WireEvent → WireOutcome → S → Type 0) (all left : List (Option WireEvent)) (number : ℕ) (s t : S)
    → Played M all left number s t → left ≡ [] → PlaysLines M all s t
all_played M all left number s t so_far none = (
  so_far.events,
  so_far.are ∙ ap (λ l. map Some so_far.events ++ l) none ∙ append-nil (map Some so_far.events),
  so_far.plays,
)

-- where no event finds no memory, none but such a line stops it
pub first_without : {S : Type 0} (lines : List (Option WireEvent)) (s u : S) (f : Fault) → StopsPlaying (λ s e o t. is_memory o ≡ false) lines s f u
    → IsFirstWithout lines f
first_without lines s u (fault.NoEvent n) (before, later, are, counted, plays) = (before, later, are, counted)
first_without lines s u (fault.Unplayed n) (before, event, later, t, are, counted, plays, made) = absurd (true≢false made)
first_without lines s u fault.Arguments stops = absurd stops
first_without lines s u (fault.Read x) stops = absurd stops
first_without lines s u fault.Endless stops = absurd stops
first_without lines s u (fault.Write x) stops = absurd stops
first_without lines s u fault.Memory stops = absurd stops
first_without lines s u (fault.Record x) stops = absurd stops
first_without lines s u (fault.Script x) stops = absurd stops
first_without lines s u (fault.Address x) stops = absurd stops
first_without lines s u (fault.Server x) stops = absurd stops

-- each line asks for an event
pub all_events : {S T E : Type 0} (r : Result T E) (lines : List (Option WireEvent)) (s u : S) → OnOk r (PlaysLines (λ s e o t. is_memory o ≡ false) lines s u)
    → OnOk r (AreAllEvents lines)
all_events (Ok x) lines s u plays = (plays.0, plays.1)
all_events (Err e) lines s u plays = tt

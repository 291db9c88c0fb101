-- What a server began with, and why one did not begin.
use Rattle.std.proofs.Common.{◌≡◌, ◌∙◌, ℕ, List, [], ◌∷◌, ◌++◌, map, None, Some, Bool, true, false, Option, Result, Ok, Err, OnOk, IfErr, IfOk, MatchResult, refl, sym, ap, subst, is_ok, true≢false}
use Rattle.kv_model.specs.declared.ids.Ids.{Ids}
use Rattle.kv_model.specs.Wire.{WireEvent}
use Rattle.engine_lock.specs.Locked.{Caller, IsNew}
use Rattle.commands.specs.declared.fault.Fault.{Fault}
use Rattle.commands.specs.declared.fault.Fault.TheVariants as fault
use Rattle.commands.specs.Faults.{is_write}
use Rattle.commands.specs.Playing.{PlaysLines, StopsPlaying}
use Rattle.command_line.specs.From.{IsBegun, IsPlayed, StopsBeginning, StopsServing}
use Rattle.command_line.specs.Serving.{IsOfRun, IsOfServerAlone}

pub on_ok : {T E P : Type 0} (r : Result T E) → P → OnOk r P
on_ok (Ok x) p = p
on_ok (Err e) p = tt

-- where it went well
pub when_ok : {T E P : Type 0} (r : Result T E) → is_ok r ≡ true → OnOk r P → P
when_ok (Ok x) e p = p
when_ok (Err e) is p = absurd (true≢false (sym is))

-- a script was played to an end for a client that was new
pub begun : {T : Type 0} (r : Result T Fault) (ids : Ids) (lines : List (Option WireEvent)) (c d : Caller) → IsNew c
    → OnOk r (PlaysLines (IsPlayed ids) lines c d) → OnOk r (IsBegun ids lines)
begun (Ok x) ids lines c d new plays = (c, d, new, plays)
begun (Err e) ids lines c d new plays = tt

-- or not
pub stopped : (ids : Ids) (lines : List (Option WireEvent)) (f : Fault) (c d : Caller) → IsNew c → StopsPlaying (IsPlayed ids) lines c f d
    → StopsBeginning ids lines f
stopped ids lines (fault.NoEvent n) c d new stops = (c, d, new, stops)
stopped ids lines (fault.Unplayed n) c d new stops = (c, d, new, stops)
stopped ids lines fault.Arguments c d new stops = absurd stops
stopped ids lines (fault.Read e) c d new stops = absurd stops
stopped ids lines fault.Endless c d new stops = absurd stops
stopped ids lines (fault.Write e) c d new stops = absurd stops
stopped ids lines fault.Memory c d new stops = absurd stops
stopped ids lines (fault.Record e) c d new stops = absurd stops
stopped ids lines (fault.Script e) c d new stops = absurd stops
stopped ids lines (fault.Address e) c d new stops = absurd stops
stopped ids lines (fault.Server front) c d new stops = absurd stops

-- which is a fault of a run
pub of_beginning : (ids : Ids) (lines : List (Option WireEvent)) (f : Fault) → StopsBeginning ids lines f → StopsServing ids lines f
of_beginning ids lines (fault.NoEvent n) stops = stops
of_beginning ids lines (fault.Unplayed n) stops = stops
of_beginning ids lines fault.Arguments stops = stops
of_beginning ids lines (fault.Read e) stops = stops
of_beginning ids lines fault.Endless stops = stops
of_beginning ids lines (fault.Write e) stops = stops
of_beginning ids lines fault.Memory stops = tt
of_beginning ids lines (fault.Record e) stops = stops
of_beginning ids lines (fault.Script e) stops = stops
of_beginning ids lines (fault.Address e) stops = stops
of_beginning ids lines (fault.Server front) stops = stops

-- and none of writing
pub writes_nothing : (ids : Ids) (lines : List (Option WireEvent)) (f : Fault) → StopsBeginning ids lines f → is_write f ≡ false
writes_nothing ids lines (fault.NoEvent n) stops = refl
writes_nothing ids lines (fault.Unplayed n) stops = refl
writes_nothing ids lines fault.Arguments stops = refl
writes_nothing ids lines (fault.Read e) stops = refl
writes_nothing ids lines fault.Endless stops = refl
writes_nothing ids lines (fault.Write e) (c, d, new, stops) = absurd stops
writes_nothing ids lines fault.Memory stops = refl
writes_nothing ids lines (fault.Record e) stops = refl
writes_nothing ids lines (fault.Script e) stops = refl
writes_nothing ids lines (fault.Address e) stops = refl
writes_nothing ids lines (fault.Server front) stops = refl

-- so is one of a server that began
pub of_server : {T : Type 0} (r : Result T Fault) (ids : Ids) (lines : List (Option WireEvent)) → IfErr r IsOfServerAlone → IfErr r (StopsServing ids lines)
of_server (Ok x) ids lines h = tt
of_server (Err (fault.Server front)) ids lines h = h
of_server (Err fault.Arguments) ids lines h = absurd h
of_server (Err (fault.Read x)) ids lines h = absurd h
of_server (Err fault.Endless) ids lines h = absurd h
of_server (Err (fault.Write x)) ids lines h = absurd h
of_server (Err fault.Memory) ids lines h = absurd h
of_server (Err (fault.Record x)) ids lines h = absurd h
of_server (Err (fault.Script x)) ids lines h = absurd h
of_server (Err (fault.NoEvent n)) ids lines h = absurd h
of_server (Err (fault.Unplayed n)) ids lines h = absurd h
of_server (Err (fault.Address x)) ids lines h = absurd h

pub server_writes_nothing : {T : Type 0} (r : Result T Fault) → IfErr r IsOfServerAlone → IfErr r (λ f. is_write f ≡ false)
server_writes_nothing (Ok x) h = tt
server_writes_nothing (Err (fault.Server front)) h = refl
server_writes_nothing (Err fault.Arguments) h = absurd h
server_writes_nothing (Err (fault.Read x)) h = absurd h
server_writes_nothing (Err fault.Endless) h = absurd h
server_writes_nothing (Err (fault.Write x)) h = absurd h
server_writes_nothing (Err fault.Memory) h = absurd h
server_writes_nothing (Err (fault.Record x)) h = absurd h
server_writes_nothing (Err (fault.Script x)) h = absurd h
server_writes_nothing (Err (fault.NoEvent n)) h = absurd h
server_writes_nothing (Err (fault.Unplayed n)) h = absurd h
server_writes_nothing (Err (fault.Address x)) h = absurd h

-- what holds where a server has ended holds where that was told
pub begun_too : {T E : Type 0} (P : Type 0) (r : Result T E) (ended : Result ℕ Fault) (Q : ℕ → Type 0) → OnOk r (MatchResult ended Q (λ f. ⊥)) → OnOk ended P → OnOk r P
begun_too P (Err e) ended Q told begins = tt
begun_too P (Ok x) (Err f) Q told begins = absurd told
begun_too P (Ok x) (Ok n) Q told begins = begins

-- no line of an empty script stops a server
abbrev has_line : {A : Type 0} → List A → Bool
has_line [] = false
has_line (x ∷ xs) = true

no_line : {A : Type 0} (before later : List A) (line : A) → [] ≡ before ++ line ∷ later → ⊥
no_line [] later line e = true≢false (sym (ap has_line e))
no_line (b ∷ before) later line e = true≢false (sym (ap has_line e))

pub without_lines : (ids : Ids) (lines : List (Option WireEvent)) (f : Fault) → lines ≡ [] → StopsServing ids lines f → IsOfRun f
without_lines ids lines fault.Memory none stops = tt
without_lines ids lines (fault.Server front) none stops = stops
without_lines ids lines (fault.NoEvent n) none (c, d, new, stops) = absurd (no_line (map Some stops.0) stops.1 None (sym none ∙ stops.2))
without_lines ids lines (fault.Unplayed n) none (c, d, new, stops) = absurd (no_line (map Some stops.0) stops.2 (Some stops.1) (sym none ∙ stops.4))
without_lines ids lines fault.Arguments none (c, d, new, stops) = absurd stops
without_lines ids lines (fault.Read x) none (c, d, new, stops) = absurd stops
without_lines ids lines fault.Endless none (c, d, new, stops) = absurd stops
without_lines ids lines (fault.Write x) none (c, d, new, stops) = absurd stops
without_lines ids lines (fault.Record x) none (c, d, new, stops) = absurd stops
without_lines ids lines (fault.Script x) none (c, d, new, stops) = absurd stops
without_lines ids lines (fault.Address x) none (c, d, new, stops) = absurd stops

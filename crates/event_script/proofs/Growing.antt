-- A script only grows.
use Rattle.std.proofs.Common.{Bool, true, false, List, [], ◌∷◌, ◌++◌, Option, None, Some, fold, refl, sym, subst, ◌&&◌, cond}
use Rattle.std.proofs.lemmas.List.{append-nil}
use Rattle.std.proofs.lemmas.List.Sums.{fold-append}
use mathlib.Core.List.{IsPrefix}
use Rattle.kv_model.specs.Follows.{Outcome}
use Rattle.kv_model.specs.Wire.{WireEvent, WireOutcome, WireTold}
use Rattle.recording.specs.Lines.{Written, blank, lines_of}
use Rattle.event_book.specs.Events.{Entry, Event}
use Rattle.event_book.proofs.Prefixes.{prefix_trans}
use Rattle.event_script.specs.Leading.{ScriptGrows}
use Rattle.event_script.specs.Scripts.{delivery_line, ending_line, expiry_line, handed_with, noted, noted_by, noted_if, noted_told, noted_trimming}
use Rattle.event_script.specs.Scripts.{request_in, script_of, write, written_by}

-- the second text begins with the first
abbrev Begins : Written → Written → Type 0
Begins l m = IsPrefix l.text m.text

itself : (l : Written) → Begins l l
itself l = ([], append-nil l.text)

one_line : (l : Written) (e : WireEvent) → Begins l (noted l e)
one_line l e = (lines_of l.told l.clock e, refl)

if_line : (l : Written) (x : Option WireEvent) → Begins l (noted_if l x)
if_line l None = itself l
if_line l (Some e) = one_line l e

if_trim : (b done : Bool) (l : Written) → Begins l (cond b l (record (noted l WireEvent.trim) { is_trimmed = done }))
if_trim true done l = itself l
if_trim false done l = one_line l WireEvent.trim

trim_line : (l : Written) (t : WireTold) → Begins l (noted_trimming l t)
trim_line l (WireTold.clock n) = itself l
trim_line l (WireTold.reply r up watch) = itself l
trim_line l WireTold.no_watch = itself l
trim_line l WireTold.nothing = itself l
trim_line l (WireTold.message text) = itself l
trim_line l (WireTold.closed stood) = itself l
trim_line l (WireTold.expiry e) = itself l
trim_line l (WireTold.removed p) = if_trim false false l
trim_line l (WireTold.kept p) = if_trim false false l
trim_line l (WireTold.done n certificate) = if_trim (true && l.is_trimmed) true l
trim_line l (WireTold.certified dump certificate) = itself l
trim_line l WireTold.untold = itself l

told_line : (l : Written) (e : Event) (t : WireTold) → Begins l (noted_told l e t)
told_line l (Event.moment now) t = itself l
told_line l (Event.command now asking) t = if_line l asking.request
told_line l (Event.expiry now) t = if_line l (expiry_line t)
told_line l (Event.delivery number) t = if_line l (delivery_line number t)
told_line l (Event.ending number) t = if_line l (ending_line number t)
told_line l Event.trimming t = trim_line l t
told_line l Event.certificate t = itself l

outcome_line : (l : Written) (e : Event) (o : WireOutcome) → Begins l (noted_by l e o)
outcome_line l e Outcome.memory = itself l
outcome_line l e (Outcome.lost x) = if_line l (request_in e)
outcome_line l e (Outcome.said t) = told_line l e t

-- a moment that is handed in is no text
handed_line : (l : Written) (e : Event) (m : Written) → Begins (handed_with l e) m → Begins l m
handed_line l (Event.moment now) m b = b
handed_line l (Event.command now asking) m b = b
handed_line l (Event.expiry now) m b = b
handed_line l (Event.delivery number) m b = b
handed_line l (Event.ending number) m b = b
handed_line l Event.trimming m b = b
handed_line l Event.certificate m b = b

one_more : (l : Written) (e : Entry) → Begins l (write l e)
one_more l e = handed_line l e.event (write l e) (outcome_line (handed_with l e.event) e.event e.outcome)

some_more : (l : Written) (log : List Entry) → Begins l (fold write l log)
some_more l [] = itself l
some_more l (e ∷ log) = prefix_trans l.text (write l e).text (fold write (write l e) log).text (one_more l e) (some_more (write l e) log)

script_more : (front more : List Entry) → IsPrefix (script_of front) (script_of (front ++ more))
script_more front more = subst (Begins (written_by front)) (sym (fold-append write (blank false) front more)) (some_more (written_by front) more)

pub script_grows : ScriptGrows
script_grows front log p = subst (λ xs. IsPrefix (script_of front) (script_of xs)) p.1 (script_more front p.0)

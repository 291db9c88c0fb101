-- What an engine writes down of a list of events is read as events that lead to its world.
use Rattle.std.proofs.Common.{◌≡◌, ℕ, suc, ◌+◌, ◌≤◌, List, [], ◌∷◌, ◌++◌, map, length, Bool, true, false, not, ◌&&◌, ◌||◌, nat_le, nat_lt}
use Rattle.std.proofs.Common.{Option, None, Some, Ok, Err, is_some, option_and_then, refl, sym, ap, ◌∙◌, subst, cond, codes, IsOk, arith, true≢false}
use Rattle.std.specs.Prelude.{All}
use Rattle.std.specs.List.{list_all, concat}
use Rattle.std.proofs.lemmas.Bool.{leb-true, ltb-false}
use Rattle.std.proofs.lemmas.Bool.Decides.{nat_tests}
use Rattle.std.proofs.lemmas.List.{append-nil, length-append, length-map}
use Rattle.std.proofs.lemmas.List.Elements.{All-weaker}
use Rattle.std.proofs.lemmas.Simd.{map-map}
use Rattle.std.proofs.lemmas.List.Sums.{AllPass-from_list_all}
use Rattle.kv_model.specs.Keys.{same_key}
use Rattle.kv_model.specs.Requests.{Bad, Read, body_or_empty, json_of, longest_body, members_of, named_value, no_path, not_json, object_of}
use Rattle.kv_model.specs.Requests.{paths, request_of, some_or, too_long, ◌>>=◌}
use Rattle.kv_model.specs.Wire.{WireEvent}
use Rattle.store_laws.proofs.HistoryLaws.{same_key-eq}
use Rattle.recording.specs.Lines.{all_of, line_of, within_line}
use Rattle.event_script.specs.Leading.{HasLine}
use Rattle.event_script.proofs.Leading.{written_leads}
use Rattle.commands.specs.Script.{is, line_events}
use Rattle.command_line.specs.ReadBack.{IsOfPath, IsRecordable, IsRecordingReadBack, IsRecordingScript, as_read}
use Rattle.command_line.proofs.ReadBack.{read_back}

-- ---- the path of a request

-- no space and no line feed, and not long
abbrev is_plain : List ℕ → Bool
is_plain path = list_all (λ b. not (is 32 b || is 10 b)) path && nat_le (length path) 64

both : (a b : Bool) → (a && b) ≡ true → (a ≡ true) × (b ≡ true)
both true true e = (refl, refl)
both true false e = absurd (true≢false (sym e))
both false b e = absurd (true≢false (sym e))

-- a name that is found is one of the list
one_of : {X : Type 0} (b : Bool) (e : List ℕ × X) (rest : Option X) (s : List ℕ) → same_key e.0 s ≡ b → is_plain e.0 ≡ true
    → (is_some rest ≡ true → is_plain s ≡ true) → is_some (cond b (Some e.1) rest) ≡ true → is_plain s ≡ true
one_of true e rest s same plain later some = subst (λ x. is_plain x ≡ true) (same_key-eq e.0 s same) plain
one_of false e rest s same plain later some = later some

found : {X : Type 0} (es : List (List ℕ × X)) (s : List ℕ) → list_all (λ e. is_plain e.0) es ≡ true → is_some (named_value es s) ≡ true
    → is_plain s ≡ true
found [] s plain some = absurd (true≢false (sym some))
found (e ∷ es) s plain some =
    let each = both (is_plain e.0) (list_all (λ x. is_plain x.0) es) plain in
    one_of (same_key e.0 s) e (named_value es s) s refl each.0 (found es s each.1) some

of_path : (b : ℕ) → not (is 32 b || is 10 b) ≡ true → IsOfPath b
of_path b h = (grind (arith, nat_tests, h), grind (arith, nat_tests, h))

-- ---- a request for a command

-- the path is one that is built, and the body is an object
abbrev Parts : {X Y : Type 0} → Option (X → Read Y) → Read X → Type 0
Parts reader o = (is_some reader ≡ true) × IsOk o

parts : {X Y : Type 0} (reader : Option (X → Read Y)) (o : Read X)
    → IsOk (some_or no_path reader >>= λ f. o >>= λ ms. f ms) → Parts reader o
parts None o h = absurd (true≢false (sym h))
parts (Some f) (Ok ms) h = (refl, refl)
parts (Some f) (Err e) h = absurd (true≢false (sym h))

asked : (path body : List ℕ) → IsOk (request_of path body) → Parts (named_value paths path) (object_of body)
unfolding request_of
asked path body h = parts (named_value paths path) (object_of body) h

within : {X : Type 0} (b : Bool) (why : Bad) (rest : Read X) (body : List ℕ) → nat_lt longest_body (length body) ≡ b
    → IsOk (cond b (Err why) rest) → length body ≤ longest_body
within true why rest body long h = absurd (true≢false (sym h))
within false why rest body long h = ltb-false longest_body (length body) long

short : (body : List ℕ) → IsOk (object_of body) → length body ≤ longest_body
short body h = within (nat_lt longest_body (length body)) too_long
    (some_or not_json (option_and_then members_of (json_of (body_or_empty body)))) body refl h

line_length : (path body : List ℕ) → length (line_of (WireEvent.post path body)) ≡ 5 + (length path + suc (length body)) + 1
line_length path body =
    length-append (codes "POST " ++ (path ++ (32 ∷ map within_line body))) (10 ∷ [])
    ∙ ap (λ n. n + 1) (length-append (codes "POST ") (path ++ (32 ∷ map within_line body))
    ∙ ap (λ n. 5 + n) (length-append path (32 ∷ map within_line body) ∙ ap (λ n. length path + suc n) (length-map body within_line)))

posted : (path body : List ℕ) → IsOk (request_of path body) → IsRecordable (WireEvent.post path body)
posted path body h =
    let known = asked path body h in
    let plain = both (list_all (λ b. not (is 32 b || is 10 b)) path) (nat_le (length path) 64) (found paths path refl known.0) in (
      All-weaker (λ b. not (is 32 b || is 10 b) ≡ true) IsOfPath of_path path (AllPass-from_list_all (λ b. not (is 32 b || is 10 b)) path plain.0),
      subst (λ n. n ≤ 1700001) (sym (line_length path body)) (omega (arith, leb-true (length path) 64 plain.1, short body known.1)),
    )

recordable : (e : WireEvent) → HasLine e → IsRecordable e
recordable (WireEvent.moment n) h = h
recordable (WireEvent.post path body) h = posted path body h
recordable (WireEvent.deliver n) h = h
recordable (WireEvent.close n) h = h
recordable WireEvent.expire h = h
recordable WireEvent.trim h = h
recordable WireEvent.certify h = h

-- the lines of events are read as those events
lines_read : (text : List ℕ) (events : List WireEvent) → All HasLine events → text ≡ concat (map line_of events)
    → line_events text ≡ map (λ e. Some (as_read e)) events
lines_read text events each is =
    ap line_events (is ∙ sym (append-nil (concat (map line_of events))))
    ∙ read_back events [] (All-weaker HasLine IsRecordable recordable events each)
    ∙ append-nil (map (λ e. Some (as_read e)) events)

-- ---- what was written

pub recording_read_back : IsRecordingReadBack
recording_read_back ids l t log w h =
    let led = written_leads ids l t log w h in
    (led, lines_read (all_of l) led.leads.events led.leads.each (led.lines ∙ led.leads.lines))

pub recording_is_script : IsRecordingScript
recording_is_script ids l t log w h =
    let read = recording_read_back ids l t log w h in
    (map as_read read.0.leads.events, read.1 ∙ sym (map-map Some as_read read.0.leads.events))

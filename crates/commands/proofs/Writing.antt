-- The replies of all lines, by the events among them.
use Rattle.std.proofs.Common.{◌≡◌, ℕ, List, [], ◌∷◌, ◌++◌, map, Option, None, Some, IfSome, Result}
use Rattle.std.proofs.Common.{Ok, Err, OnOk, IfErr, Bool, true, false, codes, refl, ap, subst, ◌∙◌}
use Rattle.std.specs.Io.KnownBytes.{Appends}
use Rattle.kv_model.specs.declared.ids.Ids.{Ids}
use Rattle.kv_model.specs.Wire.{WireEvent}
use Rattle.json_gateway.specs.declared.wire.WireOutcome.{WireOutcome}
use Rattle.json_gateway.specs.declared.wire.WireOutcome.TheVariants as outcome
use Rattle.json_gateway.specs.Runs.{event_view, outcome_view}
use Rattle.commands.specs.declared.script.Lines.{Lines}
use Rattle.commands.specs.Lines.{AreLines, are_events}
use Rattle.commands.specs.Script.{line_events}
use Rattle.commands.specs.declared.said.Said.{Said}
use Rattle.commands.specs.Said.{Answers, AreShown, bytes_of, first_text, line_said}
use Rattle.commands.specs.Said.{line_shown, other_texts, replies_said, text_shown, texts_left, texts_shown}
use Rattle.commands.specs.Replies.{IsAnsweredBy, events_among, outcome_line, reply_lines}
use Rattle.commands.specs.Writes.{AppendsFront, Writes}

none_left : (ls : List (Option WireEvent)) (es : List WireEvent) (ts : List (List ℕ))
    → replies_said (are_events ls) es [] ts ≡ reply_lines ls []
none_left [] es ts = refl
none_left (None ∷ ls) es ts = ap (λ t. codes "bad line\n" ++ t) (none_left ls es ts)
none_left (Some e ∷ ls) [] ts = none_left ls [] ts
none_left (Some e ∷ ls) (f ∷ es) ts = none_left ls (f ∷ es) ts

-- where the texts of an outcome and of those behind it are left, its line is written
line_is : (e : WireEvent) (o : WireOutcome) (ts later : List (List ℕ)) → ts ≡ text_shown o ++ later
    → line_shown e o ts ≡ outcome_line e (outcome_view o)
line_is e (outcome.Posted p) ts later same = refl
line_is e (outcome.Clock c) ts later same = refl
line_is e (outcome.Expiry x) ts later same = refl
line_is e (outcome.Delivered d) ts later same = refl
line_is e (outcome.Closed stood) ts later same = refl
line_is e (outcome.Trimmed t) ts later same = refl
line_is e (outcome.Certified (Ok shown)) ts later same = ap first_text same
line_is e (outcome.Certified (Err w)) ts later same = refl

-- and the texts of those behind it are left
left_is : (o : WireOutcome) (ts later : List (List ℕ)) → ts ≡ text_shown o ++ later → texts_left o ts ≡ later
left_is (outcome.Posted p) ts later same = same
left_is (outcome.Clock c) ts later same = same
left_is (outcome.Expiry x) ts later same = same
left_is (outcome.Delivered d) ts later same = same
left_is (outcome.Closed stood) ts later same = same
left_is (outcome.Trimmed t) ts later same = same
left_is (outcome.Certified (Ok shown)) ts later same = ap other_texts same
left_is (outcome.Certified (Err w)) ts later same = same

-- the replies are those to the lines
replies_are : (ls : List (Option WireEvent)) (os : List WireOutcome) (ts : List (List ℕ)) → ts ≡ texts_shown os
    → replies_said (are_events ls) (events_among ls) os ts ≡ reply_lines ls (map outcome_view os)
replies_are [] os ts same = refl
replies_are (None ∷ ls) os ts same = ap (λ t. codes "bad line\n" ++ t) (replies_are ls os ts same)
replies_are (Some e ∷ ls) [] ts same = none_left ls (e ∷ events_among ls) ts
replies_are (Some e ∷ ls) (o ∷ os) ts same =
    let lines = replies_are ls os (texts_left o ts) (left_is o ts (texts_shown os) same) in
    λ i. line_is e o ts (texts_shown os) same i ++ lines i

-- the reply to the first line stands at the front
pub first_reply : (flag : Bool) (flags : List Bool) (es : List WireEvent) (os : List WireOutcome) (ts : List (List ℕ))
    → (rest : List ℕ) × (replies_said (flag ∷ flags) es os ts ≡ line_said flag es os ts ++ rest)
first_reply false flags es os ts = (replies_said flags es os ts, refl)
first_reply true flags [] os ts = (replies_said flags [] os ts, refl)
first_reply true flags (e ∷ es) [] ts = (replies_said flags (e ∷ es) [] ts, refl)
first_reply true flags (e ∷ es) (o ∷ os) ts = (replies_said flags es os (texts_left o ts), refl)

-- the replies to the lines of a script
abbrev pub replies_of : Lines → Said → List ℕ
replies_of lines s = replies_said lines.are_events.items (map event_view lines.events.items) s.outcomes.items (map bytes_of s.texts.items)

by_lines : (text : List ℕ) (lines : Lines) (s : Said) → AreLines lines (line_events text) → AreShown s
    → replies_of lines s ≡ reply_lines (line_events text) (map outcome_view s.outcomes.items)
by_lines text lines s are shown =
    (λ i. replies_said (are.flags i) (are.events i) s.outcomes.items (map bytes_of s.texts.items))
    ∙ replies_are (line_events text) s.outcomes.items (map bytes_of s.texts.items) shown

-- what holds of the replies to the lines of the script that was read holds of what answers it
answers_from : (ids : Ids) (known : Option (List ℕ)) (text : List ℕ) (lines : Lines) (s : Said) (P : List ℕ → Type 0)
    → IfSome known (λ t. text ≡ t) → AreLines lines (line_events text) → Answers ids text s
    → P (replies_of lines s)
    → IfSome known (λ script. (x : List ℕ) × IsAnsweredBy ids script x × P x)
answers_from ids None text lines s P same are run p = tt
answers_from ids (Some t) text lines s P same are run p =
    subst (λ t. (x : List ℕ) × IsAnsweredBy ids t x × P x) same (
      reply_lines (line_events text) (map outcome_view s.outcomes.items),
      (map outcome_view s.outcomes.items, run.0, refl),
      subst P (by_lines text lines s are run.1) p,
    )

-- what was written whole is what answers the script that was read
pub whole_answers : {A E : Type 0} {ids : Ids} (r : Result A E) (known before after : Option (List ℕ)) (text : List ℕ) (lines : Lines) (s : Said)
    → IfSome known (λ t. text ≡ t) → AreLines lines (line_events text) → Answers ids text s
    → Writes r before after (replies_of lines s)
    → OnOk r (IfSome known (λ script. (x : List ℕ) × IsAnsweredBy ids script x × Appends before after x))
whole_answers (Err e) known before after text lines s same are run p = tt
whole_answers (Ok a) known before after text lines s same are run p = answers_from _ known text lines s (Appends before after) same are run p

-- and what was written up to a failure is a front of that
pub front_answers : {A E : Type 0} {ids : Ids} (r : Result A E) (P : E
    → Type 0) (known before after : Option (List ℕ)) (text : List ℕ) (lines : Lines) (s : Said)
    → IfSome known (λ t. text ≡ t) → AreLines lines (line_events text) → Answers ids text s
    → Writes r before after (replies_of lines s)
    → IfErr r (λ e. P e → IfSome known (λ script. (x : List ℕ) × IsAnsweredBy ids script x × AppendsFront before after x))
front_answers (Ok a) P known before after text lines s same are run p = tt
front_answers (Err e) P known before after text lines s same are run p =
    λ _. answers_from _ known text lines s (AppendsFront before after) same are run p

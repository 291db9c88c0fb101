-- What is written for a script.
use Rattle.std.specs.Prelude.{◌≡◌, ℕ, List, [], ◌∷◌, ◌++◌, Bool, true, false, Option, None, Some}
use Rattle.std.specs.Prelude.{is_some, codes, decimal}
use Rattle.std.specs.Fmt.{signed_decimal}
use Rattle.kv_model.specs.declared.ids.Ids.{Ids}
use Rattle.kv_model.specs.declared.version.Rev.{Rev}
use Rattle.kv_model.specs.declared.refusal.Refusal.TheVariants.{Memory}
use Rattle.kv_model.specs.Answers.{Response, refused, fault_of, lost_fault}
use Rattle.kv_model.specs.Follows as follows
use Rattle.kv_model.specs.Told.{Expiry}
use Rattle.kv_model.specs.Wire.{WireEvent, WireTold, WireOutcome}
use Rattle.kv_model.specs.Headline.{IsRun}
use Rattle.certificate_text.specs.Texts.{text_of}
use Rattle.commands.specs.Script.{line_events}

-- ---- one line

-- a status, a space and a body
abbrev pub response_line : Response → List ℕ
response_line r = decimal r.status ++ 32 ∷ [] ++ r.body ++ 10 ∷ []

abbrev pub clock_line : ℕ → List ℕ
clock_line clock = codes "at " ++ decimal clock ++ 10 ∷ []

abbrev pub expiry_line : Expiry → List ℕ
expiry_line Expiry.nothing = codes "nothing\n"
expiry_line (Expiry.expired id revision raised) = codes "expired " ++ signed_decimal id ++ codes " revision "
    ++ decimal revision ++ 10 ∷ []
expiry_line Expiry.spent = codes "revisions are spent\n"

-- a revision: its main number, a point, and the number within it
abbrev pub rev_text : Rev → List ℕ
rev_text p = decimal p.main ++ 46 ∷ [] ++ decimal p.sub

-- how many versions are kept, and whether there is a certificate of them
abbrev pub done_line : ℕ → Bool → List ℕ
done_line n true = codes "done " ++ decimal n ++ 10 ∷ []
done_line n false = codes "done " ++ decimal n ++ codes " unchecked\n"

abbrev pub told_line : WireTold → List ℕ
told_line (WireTold.reply r up watch) = response_line r
told_line (WireTold.clock clock) = clock_line clock
told_line (WireTold.expiry e) = expiry_line e
told_line WireTold.no_watch = codes "no watch\n"
told_line WireTold.nothing = codes "nothing\n"
told_line (WireTold.message text) = text ++ 10 ∷ []
told_line (WireTold.closed true) = codes "closed\n"
told_line (WireTold.closed false) = codes "no watch\n"
told_line (WireTold.removed p) = codes "removed " ++ rev_text p ++ 10 ∷ []
told_line (WireTold.kept p) = codes "kept " ++ rev_text p ++ 10 ∷ []
told_line (WireTold.done n certificate) = done_line n (is_some certificate)
told_line (WireTold.certified d claims) = text_of d claims
told_line WireTold.untold = []

-- what is written where an event found no memory
abbrev pub memory_line : WireEvent → List ℕ
memory_line (WireEvent.post path body) = response_line (refused (fault_of Memory))
memory_line _ = codes "out of memory\n"

-- the line of an event with this outcome
abbrev pub outcome_line : WireEvent → WireOutcome → List ℕ
outcome_line e follows.Outcome.memory = memory_line e
outcome_line e (follows.Outcome.lost loss) = response_line (refused lost_fault)
outcome_line e (follows.Outcome.said told) = told_line told

-- ---- all lines

-- the events, without the bad lines
abbrev pub events_among : List (Option WireEvent) → List WireEvent
events_among [] = []
events_among (None ∷ ls) = events_among ls
events_among (Some e ∷ ls) = e ∷ events_among ls

-- a reply for each line; the outcomes go to the events in their order
abbrev pub reply_lines : List (Option WireEvent) → List WireOutcome → List ℕ
reply_lines [] os = []
reply_lines (None ∷ ls) os = codes "bad line\n" ++ reply_lines ls os
reply_lines (Some e ∷ ls) [] = reply_lines ls []
reply_lines (Some e ∷ ls) (o ∷ os) = outcome_line e o ++ reply_lines ls os

-- The replies are those to a run of the script's events on a fresh store, by these ids, which answers as the whole history
-- does while it is trimmed.
abbrev pub IsAnsweredBy : Ids → List ℕ → List ℕ → Type 0
IsAnsweredBy ids script replies = (os : List WireOutcome) × IsRun ids (events_among (line_events script)) os
    × (replies ≡ reply_lines (line_events script) os)

abbrev pub ids : Ids
ids = record { cluster = 1; member = 1 }

abbrev pub IsAnswered : List ℕ → List ℕ → Type 0
IsAnswered = IsAnsweredBy ids

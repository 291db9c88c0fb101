-- What is said to the events of a run: the lines of its outcomes, and the texts of what is kept, made before the first
-- line is written. Nothing that a reader must believe: `Replies` says what is written.
use Rattle.std.specs.Prelude.{◌≡◌, ℕ, List, [], ◌∷◌, ◌++◌, map, drop, Bool, true, false, Ok, codes}
use Rattle.std.specs.declared.vec.Vec.{Vec}
use Rattle.std.specs.declared.alloc.Global.{Global}
use Rattle.kv_model.specs.declared.ids.Ids.{Ids}
use Rattle.kv_model.specs.Headline.{IsRun}
use Rattle.kv_model.specs.Wire.{WireEvent}
use Rattle.json_gateway.specs.declared.wire.WireOutcome.{WireOutcome}
use Rattle.json_gateway.specs.declared.wire.WireOutcome.TheVariants as outcome
use Rattle.json_gateway.specs.Runs.{outcome_view}
use Rattle.certificate_text.specs.Texts.{text_of}
use Rattle.commands.specs.declared.said.Said.{Said}
use Rattle.commands.specs.declared.replies.Place.{Place}
use Rattle.commands.specs.Replies.{events_among, memory_line, outcome_line}
use Rattle.commands.specs.Script.{line_events}

-- ---- the texts of what is kept

abbrev pub bytes_of : Vec ℕ Global → List ℕ
bytes_of text = text.items

-- the text of an outcome that shows what is kept
abbrev pub text_shown : WireOutcome → List (List ℕ)
text_shown (outcome.Certified (Ok shown)) = text_of shown.dump shown.certificate ∷ []
text_shown _ = []

abbrev pub texts_shown : List WireOutcome → List (List ℕ)
texts_shown [] = []
texts_shown (o ∷ os) = text_shown o ++ texts_shown os

-- the texts are those of its outcomes
abbrev pub AreShown : Said → Type 0
AreShown s = map bytes_of s.texts.items ≡ texts_shown s.outcomes.items

-- ---- one line, by the texts that are left

abbrev pub first_text : List (List ℕ) → List ℕ
first_text [] = []
first_text (t ∷ ts) = t

abbrev pub other_texts : List (List ℕ) → List (List ℕ)
other_texts [] = []
other_texts (t ∷ ts) = ts

-- the one line of an outcome; what is kept has none, and where it stands for one no memory was found
abbrev pub one_line : WireEvent → WireOutcome → List ℕ
one_line e (outcome.Certified shown) = memory_line e
one_line e o = outcome_line e (outcome_view o)

abbrev pub line_shown : WireEvent → WireOutcome → List (List ℕ) → List ℕ
line_shown e (outcome.Certified (Ok shown)) ts = first_text ts
line_shown e o ts = one_line e o

-- the texts that are left behind an outcome
abbrev pub texts_left : WireOutcome → List (List ℕ) → List (List ℕ)
texts_left (outcome.Certified (Ok shown)) ts = other_texts ts
texts_left o ts = ts

-- ---- all lines, by whether each is that of an event

-- the reply to one, by the events and their outcomes from it on
abbrev pub line_said : Bool → List WireEvent → List WireOutcome → List (List ℕ) → List ℕ
line_said false es os ts = codes "bad line\n"
line_said true [] os ts = []
line_said true (e ∷ es) [] ts = []
line_said true (e ∷ es) (o ∷ os) ts = line_shown e o ts

abbrev pub replies_said : List Bool → List WireEvent → List WireOutcome → List (List ℕ) → List ℕ
replies_said [] es os ts = []
replies_said (false ∷ fs) es os ts = codes "bad line\n" ++ replies_said fs es os ts
replies_said (true ∷ fs) [] os ts = replies_said fs [] os ts
replies_said (true ∷ fs) (e ∷ es) [] ts = replies_said fs (e ∷ es) [] ts
replies_said (true ∷ fs) (e ∷ es) (o ∷ os) ts = line_shown e o ts ++ replies_said fs es os (texts_left o ts)

-- the outcomes and the texts from a place on
abbrev pub outcomes_from : Said → Place → List WireOutcome
outcomes_from s p = drop p.event s.outcomes.items

abbrev pub texts_from : Said → Place → List (List ℕ)
texts_from s p = map bytes_of (drop p.text s.texts.items)

-- ---- a run

-- they are said to the events of a script, run on a fresh store by these ids
abbrev pub Answers : Ids → List ℕ → Said → Type 0
Answers ids script s = IsRun ids (events_among (line_events script)) (map outcome_view s.outcomes.items) × AreShown s

-- What is written to whoever controls a running server by lines.
use Rattle.std.specs.Prelude.{◌≡◌, ◌⊎◌, ◌<◌, ⊤, ℕ, length, IfSome, List, [], ◌∷◌, ◌++◌, Option, None, Some, Result, Ok, Err, map, codes, option_and_then}
use Rattle.std.specs.Io.BufRead.{take_through, DropsThrough}
use Rattle.std.specs.Str.Lines.{lines}
use Rattle.std.specs.declared.alloc.AllocError.{AllocError}
use Rattle.kv_model.specs.Follows as follows
use Rattle.kv_model.specs.Wire.{WireEvent, WireOutcome, WireTold}
use Rattle.certificate_text.specs.Texts.{text_of}
use Rattle.json_gateway.specs.declared.wire.WireOutcome.{WireOutcome as Outcome}
use Rattle.json_gateway.specs.Runs.{outcome_view}
use Rattle.commands.specs.declared.controlling.Order.{Order}
use Rattle.commands.specs.declared.controlling.Order.TheVariants as order
use Rattle.commands.specs.Replies.{memory_line, outcome_line}
use Rattle.commands.specs.Script.{event_of}

-- ---- what a line asks for

-- the events that whoever controls a server may ask for; requests, and with them watches, come over HTTP
abbrev pub if_order : WireEvent → Option WireEvent
if_order (WireEvent.moment n) = Some (WireEvent.moment n)
if_order WireEvent.expire = Some WireEvent.expire
if_order WireEvent.trim = Some WireEvent.trim
if_order WireEvent.certify = Some WireEvent.certify
if_order _ = None

-- a line that a script has for one of them; any other is a bad line
abbrev pub order_of : List ℕ → Option WireEvent
order_of line = option_and_then if_order (event_of line)

abbrev pub order_view : Order → WireEvent
order_view (order.Moment n) = WireEvent.moment n
order_view order.Expire = WireEvent.expire
order_view order.Trim = WireEvent.trim
order_view order.Certify = WireEvent.certify

-- ---- what is answered

-- what an order came to, or that no memory was found for it
abbrev pub made_view : Result Outcome AllocError → WireOutcome
made_view (Ok o) = outcome_view o
made_view (Err e) = follows.Outcome.memory

-- The line of an outcome is that of a script. Of what is kept the text may find no memory, too.
abbrev pub IsLineOf : WireEvent → WireOutcome → List ℕ → Type 0
IsLineOf e (follows.Outcome.said (WireTold.certified d claims)) line = (line ≡ text_of d claims) ⊎ (line ≡ memory_line e)
IsLineOf e o line = line ≡ outcome_line e o

-- `Makes` tells what each order comes to, from a state to another
module _ {S : Type 0} (Makes : S → WireEvent → WireOutcome → S → Type 0) where
  abbrev pub AnswersLine : Option WireEvent → List ℕ → S → S → Type 0
  AnswersLine None text s t = (text ≡ codes "bad line\n") × (t ≡ s)
  AnswersLine (Some e) text s t = (o : WireOutcome) × Makes s e o t × IsLineOf e o text

  -- one line for each, in order
  abbrev pub AnswersLines : List (Option WireEvent) → List ℕ → S → S → Type 0
  AnswersLines [] text s u = (text ≡ []) × (u ≡ s)
  AnswersLines (l ∷ ls) text s u = (first : List ℕ) × (rest : List ℕ) × (t : S) × (text ≡ first ++ rest)
      × AnswersLine l first s t × AnswersLines ls rest t u

-- ---- what is left to read

-- where the bytes are known: a line was taken, with its end
abbrev pub TakesLine : Option (List ℕ) → Option (List ℕ) → List ℕ → Type 0
TakesLine old new line = (0 < length line) × IfSome old (λ xs. line ≡ take_through 10 xs) × DropsThrough old new 10

-- where the bytes are known: these lines were read, and those of the second are left of the first
abbrev pub ReadsLines : Option (List ℕ) → Option (List ℕ) → List (Option WireEvent) → Type 0
ReadsLines None new read = ⊤
ReadsLines (Some xs) None read = ⊥
ReadsLines (Some xs) (Some ys) read = map order_of (lines xs) ≡ read ++ map order_of (lines ys)

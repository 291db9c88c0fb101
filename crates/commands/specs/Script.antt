-- A script: its lines, and the event that each asks for.
use Rattle.std.specs.Prelude.{ℕ, ◌^◌, List, map, Bool, ◌==◌, nat_lt, nat_eq, if◌then◌else◌, length, Option, None, Some}
use Rattle.std.specs.Prelude.{option_and_then, codes}
use Rattle.std.specs.List.{position_or_len, before_first, after_first}
use Rattle.std.specs.Cmp.Lexicographic.{pointwise}
use Rattle.std.specs.Str.Lines.{lines}
use Rattle.kv_model.specs.Requests.{digits_value}
use Rattle.kv_model.specs.Wire.{WireEvent}

-- the most reads that a script may take
abbrev pub most_reads : ℕ
most_reads = 2 ^ 30

-- the most bytes of a line, without its end, that can be an event
abbrev pub longest_line : ℕ
longest_line = 1700000

abbrev pub is : ℕ → ℕ → Bool
is at b = b == at

-- what stands after the first such byte, if there is one
abbrev pub rest_after : ℕ → List ℕ → Option (List ℕ)
rest_after at text = if nat_lt (position_or_len (is at) text) (length text) then Some (after_first (is at) text)
    else None

-- a request: the path up to the first space, and the body after it, which may be missing
abbrev pub post_of : List ℕ → WireEvent
post_of rest = WireEvent.post (before_first (is 32) rest) (after_first (is 32) rest)

-- it fits 64 bits
abbrev pub if_unsigned_64 : ℕ → Option ℕ
if_unsigned_64 n = if nat_lt n (2 ^ 64) then Some n else None

-- a number of 64 bits, by its decimal digits alone
abbrev pub number_of : List ℕ → Option ℕ
number_of text = option_and_then if_unsigned_64 (digits_value text)

-- what a line of one word asks for
abbrev pub event_alone : List ℕ → Option WireEvent
event_alone word = if pointwise nat_eq word (codes "EXPIRE") then Some WireEvent.expire
    else (if pointwise nat_eq word (codes "TRIM") then Some WireEvent.trim
    else (if pointwise nat_eq word (codes "CERTIFY") then Some WireEvent.certify else None))

-- what a word asks for, with the number after it
abbrev pub event_numbered : List ℕ → ℕ → Option WireEvent
event_numbered word n = if pointwise nat_eq word (codes "AT") then Some (WireEvent.moment n)
    else (if pointwise nat_eq word (codes "DELIVER") then Some (WireEvent.deliver n)
    else (if pointwise nat_eq word (codes "CLOSE") then Some (WireEvent.close n) else None))

-- what a line's first word asks for, with the text after the space that ends it
abbrev pub event_with : List ℕ → List ℕ → Option WireEvent
event_with word rest = if pointwise nat_eq word (codes "POST") then Some (post_of rest)
    else option_and_then (event_numbered word) (number_of rest)

abbrev pub event_by : List ℕ → Option (List ℕ) → Option WireEvent
event_by word None = event_alone word
event_by word (Some rest) = event_with word rest

-- the event that a line asks for; a line of no form, or too long, is none
abbrev pub event_of : List ℕ → Option WireEvent
event_of line = if nat_lt longest_line (length line) then None
    else event_by (before_first (is 32) line) (rest_after 32 line)

-- the event of each line, in order
abbrev pub line_events : List ℕ → List (Option WireEvent)
line_events script = map event_of (lines script)

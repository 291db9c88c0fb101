-- What the bytes of a request say (RFC 9112): its head, the length of its body, and what is wrong with bytes that begin
-- with no request. Heads are those of `httparse`'s grammar.
use Rattle.std.specs.Prelude.{◌≡◌, ◌≢◌, ℕ, ◌+◌, ◌<◌, ◌≤◌, ◌⊎◌, nat_lt, nat_le, nat_eq, List, [], ◌∷◌, length, take, map}
use Rattle.std.specs.Prelude.{Bool, true, false}
use Rattle.std.specs.Prelude.{◌&&◌, ◌||◌, if◌then◌else◌, Result, Ok, Err, codes}
use Rattle.std.specs.List.{list_all, fold}
use Rattle.std.specs.Cmp.Lexicographic.{pointwise}
use Rattle.std.specs.Char.{is_ascii_digit, to_ascii_lowercase}
use Rattle.std.specs.Str.Parse.{digits_value}
use Rattle.httparse.specs.Grammar.{RequestHead, ReadsRequest, HasNoRequest, NeverHasRequest, MayBecomeRequest, Field}
use Rattle.httparse.specs.Spans.{RequestExceeds, name_and_value}

-- ---- header lines

-- in lower case, as far as letters are ASCII
abbrev pub lower : List ℕ → List ℕ
lower text = map to_ascii_lowercase text

-- two names are the same, but for the case of ASCII letters
abbrev pub same_name : List ℕ → List ℕ → Bool
same_name a b = pointwise nat_eq (lower a) (lower b)

-- what header lines say: whether one is a Transfer-Encoding, how many are a Content-Length, the value of the last of
-- these, and whether the connection is to be closed
pub record Marks : Type 0 where
  pub encoded : Bool
  pub lengths : ℕ
  pub length : List ℕ
  pub close : Bool

abbrev pub no_marks : Marks
no_marks = record { encoded = false; lengths = 0; length = []; close = false }

-- one header line more, a name and a value
abbrev pub noted : Marks → List ℕ × List ℕ → Marks
noted m line =
    if same_name line.0 (codes "content-length") then record m { lengths = m.lengths + 1; length = line.1 }
    else (if same_name line.0 (codes "transfer-encoding") then record m { encoded = true }
    else (if same_name line.0 (codes "connection") && same_name line.1 (codes "close") then record m { close = true }
    else m))

abbrev pub marked : List (List ℕ × List ℕ) → Marks
marked lines = fold noted no_marks lines

abbrev pub marks_of : List Field → Marks
marks_of fields = marked (map name_and_value fields)

-- ---- the length of a body

-- why there is none
pub data NoLength : Type 0 where
  bad : NoLength
  over : NoLength

abbrev pub most_head : ℕ
most_head = 8192

abbrev pub most_lines : ℕ
most_lines = 64

abbrev pub most_body : ℕ
most_body = 1572864

abbrev pub within_limit : ℕ → Result ℕ NoLength
within_limit n = if nat_le n most_body then Ok n else Err over

-- 1 to 18 decimal digits
abbrev pub is_length : List ℕ → Bool
is_length text = nat_lt 0 (length text) && nat_le (length text) 18 && list_all is_ascii_digit text

abbrev pub length_given : List ℕ → Result ℕ NoLength
length_given text = if is_length text then within_limit (digits_value 10 text) else Err bad

abbrev pub body_length : Marks → Result ℕ NoLength
body_length m =
    if m.encoded || nat_lt 1 m.lengths then Err bad
    else (if nat_eq m.lengths 0 then Ok 0 else length_given m.length)

-- ---- faults

pub data Fault : Type 0 where
  bad_head : Fault
  bad_length : Fault
  too_long : Fault

-- the bytes in which a head is looked for
abbrev pub window : List ℕ → List ℕ
window bytes = take most_head bytes

-- the text is a head of HTTP/1.1, and then rest
pub record ReadsHead (text : List ℕ) (h : RequestHead) (rest : List ℕ) : Type 0 where
  pub reads : ReadsRequest text h rest
  pub minor : h.minor ≡ 1
  pub few : length h.fields ≤ most_lines

-- no head can come of the text, or it has too many header lines, or another version
abbrev pub IsBadHead : List ℕ → Type 0
IsBadHead text = NeverHasRequest text ⊎ (RequestExceeds most_lines text
    ⊎ ((h : RequestHead) × (rest : List ℕ) × ReadsRequest text h rest × (h.minor ≢ 1)))

-- the text is a head whose body has no length, for this
abbrev pub HasNoLength : NoLength → List ℕ → Type 0
HasNoLength why text = (h : RequestHead) × (rest : List ℕ) × ReadsHead text h rest
    × (body_length (marks_of h.fields) ≡ Err why)

-- the fault may be named for bytes whose window is the text
abbrev pub Names : Fault → List ℕ → Type 0
Names bad_head text = IsBadHead text
Names bad_length text = HasNoLength bad text
Names too_long text = ((most_head ≤ length text) × HasNoRequest text × MayBecomeRequest text) ⊎ HasNoLength over text

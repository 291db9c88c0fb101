-- What a look at the first bytes of a connection says.
use Rattle.std.specs.Prelude.{◌≡◌, ℕ, ◌<◌, ◌≤◌, List, length, drop, Result, Ok, Err}
use Rattle.httparse.specs.Grammar.{RequestHead, HasNoRequest, MayBecomeRequest}
use Rattle.httparse.specs.Spans.{IsWithin, span_bytes}
use Rattle.http_head.specs.declared.head.Fault.{Fault as CodeFault}
use Rattle.http_head.specs.declared.head.Fault.TheVariants as code
use Rattle.http_head.specs.declared.head.Head.{Head}
use Rattle.http_head.specs.declared.length.NoLength.{NoLength as CodeNoLength}
use Rattle.http_head.specs.declared.length.NoLength.TheVariants as none
use Rattle.http_head.specs.declared.head.Look.{Look}
use Rattle.http_head.specs.declared.head.Look.TheVariants as look
use Rattle.http_head.specs.declared.marks.Marks.{Marks as CodeMarks}
use Rattle.http_head.specs.Heads.{Fault, NoLength, bad, over, Marks, Names, ReadsHead, body_length, bad_head}
use Rattle.http_head.specs.Heads.{bad_length, too_long, marks_of, most_head}

abbrev pub fault_view : CodeFault → Fault
fault_view code.Head = bad_head
fault_view code.Length = bad_length
fault_view code.TooLong = too_long

abbrev pub length_view : Result ℕ CodeNoLength → Result ℕ NoLength
length_view (Ok n) = Ok n
length_view (Err none.Bad) = Err bad
length_view (Err none.Over) = Err over

abbrev pub marks_view : CodeMarks → Marks
marks_view m = record { encoded = m.encoded; lengths = m.lengths; length = m.length.now; close = m.close }

-- the places are those of the head h at the front of the text
pub record IsHead (text : List ℕ) (x : Head) (h : RequestHead) : Type 0 where
  pub reads : ReadsHead text h (drop x.len text)
  pub fits : x.len ≤ length text
  pub method_within : IsWithin x.len x.method
  pub target_within : IsWithin x.len x.target
  pub method : span_bytes text x.method ≡ h.method
  pub target : span_bytes text x.target ≡ h.target
  pub body : body_length (marks_of h.fields) ≡ Ok x.body
  pub close : x.close ≡ (marks_of h.fields).close

-- what was seen is so of the window
abbrev pub Looks : List ℕ → Look → Type 0
Looks text (look.Head x) = (h : RequestHead) × IsHead text x h
Looks text look.More = (length text < most_head) × HasNoRequest text × MayBecomeRequest text
Looks text (look.Fault f) = Names (fault_view f) text

-- A text that is read, line after line: what was read and the lines after it, or the lines from the unreadable one on.
use Rattle.std.specs.Prelude.{⊤, ℕ, List, [], ◌∷◌, ◌++◌, Bool, true, false, if◌then◌else◌, Option, None, Some, Result, Ok, Err, codes}
use Rattle.kv_model.specs.Certificates.{Dump, Claim}
use Rattle.certificate_text.specs.Texts.{dump_head, needs_head}
use Rattle.certificate_text.specs.Reading.{same_text, version_of, claim_in, numbered}

abbrev pub Read : Type 0 → Type 0
Read A = Result (A × List (List ℕ)) (List (List ℕ))

infixl 10 ◌>>=◌
abbrev pub ◌>>=◌ : {A B : Type 0} → Result A (List (List ℕ)) → (A → Result B (List (List ℕ))) → Result B (List (List ℕ))
(Ok x) >>= f = f x
(Err ls) >>= f = Err ls

-- what a line gave, if anything; else it is unreadable
abbrev pub given : {A : Type 0} → Option A → List (List ℕ) → List (List ℕ) → Read A
given None from after = Err from
given (Some a) from after = Ok (a, after)

-- the next line, by how it is read
abbrev pub line_by : {A : Type 0} → (List ℕ → Option A) → List (List ℕ) → Read A
line_by read [] = Err []
line_by read (line ∷ ls) = given (read line) (line ∷ ls) ls

-- this very line
abbrev pub exactly : List ℕ → List ℕ → Option ⊤
exactly known line = if same_text line known then Some tt else None

abbrev pub with_front : {A : Type 0} → List A → Read (List A) → Read (List A)
with_front front r = r >>= λ x. Ok (front ++ x.0, x.1)

-- the lines up to the one that ends them
unfoldable pub up_to_end : {A : Type 0} → (List ℕ → Option A) → List (List ℕ) → Read (List A)
up_to_end read [] = Err []
up_to_end read (line ∷ ls) = if same_text line (codes "end") then Ok ([], ls)
    else given (read line) (line ∷ ls) ls >>= λ x. with_front (x.0 ∷ []) (up_to_end read ls)

-- no line is left
abbrev pub if_none_left : {A : Type 0} → A → List (List ℕ) → Result A (List (List ℕ))
if_none_left a [] = Ok a
if_none_left a (line ∷ ls) = Err (line ∷ ls)

-- the first three lines, of which nothing is kept but two numbers
unfoldable pub head_of : Bool → List (List ℕ) → Read (ℕ × ℕ)
head_of first ls = do
  head ← line_by (exactly (dump_head first)) ls
  floor ← line_by (numbered (codes "floor")) head.1
  revision ← line_by (numbered (codes "revision")) floor.1
  Ok ((floor.0, revision.0), revision.1)

unfoldable pub dump_of : Bool → List (List ℕ) → Read Dump
dump_of first ls = do
  head ← line_by (exactly (dump_head first)) ls
  floor ← line_by (numbered (codes "floor")) head.1
  revision ← line_by (numbered (codes "revision")) floor.1
  versions ← up_to_end version_of revision.1
  Ok (record { floor = floor.0; revision = revision.0; versions = versions.0 }, versions.1)

unfoldable pub needs_of : Bool → List (List ℕ) → Read (List Claim)
needs_of first ls = do
  head ← line_by (exactly (needs_head first)) ls
  up_to_end (claim_in first) head.1

-- a text in a format
unfoldable pub read_in : Bool → List (List ℕ) → Result (Dump × List Claim) (List (List ℕ))
read_in first ls = do
  dump ← dump_of first ls
  claims ← needs_of first dump.1
  if_none_left (dump.0, claims.0) claims.1

-- whether the first line is that of the first format
abbrev pub begins_first : List (List ℕ) → Bool
begins_first [] = false
begins_first (line ∷ ls) = same_text line (dump_head true)

-- its first three lines, and the text, in the format of its first line
abbrev pub head_read : List (List ℕ) → Read (ℕ × ℕ)
head_read ls = head_of (begins_first ls) ls

abbrev pub text_read : List (List ℕ) → Result (Dump × List Claim) (List (List ℕ))
text_read ls = read_in (begins_first ls) ls

-- What the results of the program's readers say of the readings.
use Rattle.std.specs.Prelude.{◌≡◌, ⊤, ℕ, ◌+◌, ◌-◌, List, [], ◌∷◌, length, Option, None, Some, Result, Ok, Err}
use Rattle.std.specs.Prelude.{Vec}
use Rattle.std.specs.Borrow.{Bor}
use Rattle.std.specs.declared.alloc.Global.{Global}
use Rattle.base64.specs.declared.decode.DecodeAllocError.{DecodeAllocError}
use Rattle.base64.specs.declared.decode.DecodeAllocError.TheVariants as failure
use Rattle.certificate_text.specs.declared.fields.Unfit.{Unfit}
use Rattle.certificate_text.specs.declared.fields.Unfit.TheVariants as unfit
use Rattle.certificate_text.specs.declared.stop.Stop.{Stop}
use Rattle.certificate_text.specs.declared.stop.Stop.TheVariants as stop
use Rattle.certificate_text.specs.declared.reading.Unreadable.{Unreadable}
use Rattle.certificate_text.specs.declared.reading.Unreadable.TheVariants as unreadable
use Rattle.kv_model.specs.Certificates.{Dump, Claim}
use Rattle.certificate_text.specs.Lines.{lines_of, IsFirstUnreadable}
use Rattle.certificate_text.specs.Walking.{Read}

-- A line or field that does not fit is none; want of memory says nothing of it.
abbrev pub FailsIn : {Y : Type 0} → Unfit → Option Y → Type 0
FailsIn unfit.Form r = r ≡ None
FailsIn unfit.Memory r = ⊤

-- what was read, seen by `view`
abbrev pub Gives : {X Y : Type 0} → (X → Y) → Result X Unfit → Option Y → Type 0
Gives view (Ok x) r = r ≡ Some (view x)
Gives view (Err e) r = FailsIn e r

-- what was read, and the fields that are left
abbrev pub Takes : {X : Type 0} → Result X Unfit → List (List ℕ) → Option (X × List (List ℕ)) → Type 0
Takes (Ok x) rest r = r ≡ Some (x, rest)
Takes (Err e) rest r = FailsIn e r

-- ---- where no memory is taken: want of it is never told

abbrev pub IsForm : Unfit → Type 0
IsForm unfit.Form = ⊤
IsForm unfit.Memory = ⊥

-- What decoding base64 came to: symbols that are none are of no form, and want of memory is told where the decoder told it.
abbrev pub IsDecoded : Result (Vec ℕ Global) DecodeAllocError → Result (Vec ℕ Global) Unfit → Type 0
IsDecoded (Ok v) r = r ≡ Ok v
IsDecoded (Err (failure.DecodeError e)) r = r ≡ Err unfit.Form
IsDecoded (Err failure.OutOfMemory) r = r ≡ Err unfit.Memory

abbrev pub Tells : {X Y : Type 0} → (X → Y) → Result X Unfit → Option Y → Type 0
Tells view (Ok x) r = r ≡ Some (view x)
Tells view (Err e) r = FailsIn e r × IsForm e

abbrev pub TakesPlainly : {X : Type 0} → Result X Unfit → List (List ℕ) → Option (X × List (List ℕ)) → Type 0
TakesPlainly (Ok x) rest r = r ≡ Some (x, rest)
TakesPlainly (Err e) rest r = FailsIn e r × IsForm e

-- the next field, and the fields behind it
abbrev pub IsNext : Result (Bor (List ℕ)) Unfit → List (List ℕ) → List (List ℕ) → Type 0
IsNext (Ok field) old new = old ≡ field.now ∷ new
IsNext (Err unfit.Form) old new = old ≡ []
IsNext (Err unfit.Memory) old new = ⊥

-- A text that goes on at the lines that are left; want of memory says nothing of it.
abbrev pub FailsAt : {Y : Type 0} → Stop → Result Y (List (List ℕ)) → Type 0
FailsAt (stop.At rest) r = r ≡ Err (lines_of rest.now)
FailsAt stop.Memory r = ⊤

-- what was read, seen by `view`, and the lines that are left
abbrev pub Reads : {X Y : Type 0} → (X → Y) → Result (X × Bor (List ℕ)) Stop → Read Y → Type 0
Reads view (Ok x) r = r ≡ Ok (view x.0, lines_of x.1.now)
Reads view (Err e) r = FailsAt e r

abbrev pub IsAt : Stop → Type 0
IsAt (stop.At rest) = ⊤
IsAt stop.Memory = ⊥

-- the same, where no memory is taken
abbrev pub ReadsPlainly : {X Y : Type 0} → (X → Y) → Result (X × Bor (List ℕ)) Stop → Read Y → Type 0
ReadsPlainly view (Ok x) r = r ≡ Ok (view x.0, lines_of x.1.now)
ReadsPlainly view (Err e) r = FailsAt e r × IsAt e

-- the same, of a whole text
abbrev pub ReadsAll : {X Y : Type 0} → (X → Y) → Result X Stop → Result Y (List (List ℕ)) → Type 0
ReadsAll view (Ok x) r = r ≡ Ok (view x)
ReadsAll view (Err e) r = FailsAt e r

-- a text whose head is none stops there: memory is taken behind it alone
abbrev pub IsEarly : {X Y : Type 0} → Read Y → Result X Stop → Type 0
IsEarly (Ok y) r = ⊤
IsEarly (Err ls) (Ok x) = ⊥
IsEarly (Err ls) (Err (stop.At rest)) = lines_of rest.now ≡ ls
IsEarly (Err ls) (Err stop.Memory) = ⊥

-- how a text stops at a line that gave nothing
abbrev pub stopped : Bor (List ℕ) → Unfit → Stop
stopped text unfit.Form = stop.At text
stopped text unfit.Memory = stop.Memory

-- What reading a text came to, as it is told: the number of the line at which it stopped, or want of memory where
-- memory was wanting.
abbrev pub IsToldAs : List ℕ → Result (Dump × List Claim) Stop → Result (Dump × List Claim) Unreadable → Type 0
IsToldAs text (Ok found) r = r ≡ Ok found
IsToldAs text (Err (stop.At rest)) r = r ≡ Err (unreadable.Line (length (lines_of text) - length (lines_of rest.now) + 1))
IsToldAs text (Err stop.Memory) r = r ≡ Err unreadable.Memory

-- what a refusal says of a text
abbrev pub IsUnreadable : List ℕ → Unreadable → Type 0
IsUnreadable text (unreadable.Line n) = IsFirstUnreadable (lines_of text) n
IsUnreadable text unreadable.Memory = ⊤

-- this very dump and these claims, unless memory is wanting
abbrev pub ReadsBack : Result (Dump × List Claim) Unreadable → Dump → List Claim → Type 0
ReadsBack (Ok r) d claims = (r.0 ≡ d) × (r.1 ≡ claims)
ReadsBack (Err e) d claims = e ≡ unreadable.Memory

-- What a reader's result says of the model's reading.
use Rattle.std.specs.Prelude.{◌≡◌, ℕ, Bool, true, false, Result, Ok, Err, ⊤}
use Rattle.kv_model.specs.Requests.{Read, no_path, too_long, not_json, bad_field, bad_base64}
use Rattle.gateway_read.specs.declared.bad.Bad.{Bad}
use Rattle.gateway_read.specs.declared.bad.Bad.TheVariants.{NotJson, BadField, BadBase64, NoPath, TooLong, Memory}
use Rattle.gateway_read.specs.Fields.{snake_of}

-- the number of a refusal
abbrev pub number_of : Bad → ℕ
number_of NotJson = 20
number_of (BadField f) = 21
number_of (BadBase64 f) = 22
number_of NoPath = 23
number_of TooLong = 24
number_of Memory = 1

-- A refusal is the model's fault; want of memory says nothing of it.
abbrev pub Fails : {Y : Type 0} → Bad → Read Y → Type 0
Fails NotJson r = r ≡ Err not_json
Fails (BadField f) r = r ≡ Err (bad_field (snake_of f))
Fails (BadBase64 f) r = r ≡ Err (bad_base64 (snake_of f))
Fails NoPath r = r ≡ Err no_path
Fails TooLong r = r ≡ Err too_long
Fails Memory r = ⊤

-- What was read is what the model reads, seen by `view`, and a refusal is its fault.
abbrev pub Gives : {X Y : Type 0} → (X → Y) → Result X Bad → Read Y → Type 0
Gives view (Ok x) r = r ≡ Ok (view x)
Gives view (Err e) r = Fails e r

-- ---- where no memory is taken

-- a refusal that is not want of memory
abbrev pub IsOther : Bad → Type 0
IsOther Memory = ⊥
IsOther _ = ⊤

-- The same, and want of memory is never told.
abbrev pub Tells : {X Y : Type 0} → (X → Y) → Result X Bad → Read Y → Type 0
Tells view (Ok x) r = r ≡ Ok (view x)
Tells view (Err e) r = Fails e r × IsOther e

-- it is told only where memory is taken
abbrev pub GivesBy : {X Y : Type 0} → Bool → (X → Y) → Result X Bad → Read Y → Type 0
GivesBy true view r m = Gives view r m
GivesBy false view r m = Tells view r m

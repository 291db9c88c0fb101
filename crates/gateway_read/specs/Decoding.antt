-- What decoding base64 came to, as it is told: what is no base64 is never told as want of memory.
use Rattle.std.specs.Prelude.{◌≡◌, ℕ, List, Bool, true, false, Option, None, Some, Result, Ok, Err, is_ok, drop, ⊤, if◌then◌else◌}
use Rattle.std.specs.declared.alloc.AllocError.{AllocError}
use Rattle.base64.specs.declared.decode.DecodeAllocError.{DecodeAllocError}
use Rattle.base64.specs.declared.decode.DecodeAllocError.TheVariants as failure
use Rattle.serde_json.specs.Data.{Data}
use Rattle.gateway_read.specs.declared.bad.Bad.{Bad}
use Rattle.gateway_read.specs.declared.bad.Bad.TheVariants.{BadBase64, Memory}
use Rattle.gateway_read.specs.declared.field.Field.{Field}

-- Symbols that are no base64 stand for nothing, and want of memory is told where the decoder told it.
abbrev pub IsDecoded : Result ⊤ DecodeAllocError → Result Bool AllocError → Type 0
IsDecoded (Ok u) r = r ≡ Ok true
IsDecoded (Err (failure.DecodeError e)) r = r ≡ Ok false
IsDecoded (Err failure.OutOfMemory) r = is_ok r ≡ false

-- what was appended behind so many bytes, if anything was decoded
abbrev pub appended : Bool → ℕ → List ℕ → Option (List ℕ)
appended done n bytes = if done then Some (drop n bytes) else None

-- the reading of a field whose text was decoded so
abbrev pub told_as : {E : Type 0} → Field → Result Bool E → Result ⊤ Bad
told_as f (Ok done) = if done then Ok tt else Err (BadBase64 f)
told_as f (Err e) = Err Memory

-- a field's value is a text: no other value is decoded
abbrev pub is_text : Option Data → Bool
is_text (Some (Data.string s)) = true
is_text _ = false

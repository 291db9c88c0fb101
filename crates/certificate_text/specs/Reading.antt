-- A text, line by line and field by field, as it is read. What that comes to say of texts is in `Lines`.
use Rattle.std.specs.Prelude.{⊤, ℕ, zero, suc, ◌^◌, ◌-◌, ◌==◌, ℤ, pos, negsuc, nat_le, nat_lt, nat_eq, List, [], ◌∷◌}
use Rattle.std.specs.Prelude.{length}
use Rattle.std.specs.Prelude.{Bool, not, ◌&&◌, if◌then◌else◌, Option, None, Some, option_map, option_and_then}
use Rattle.std.specs.Prelude.{slice_index, codes}
use Rattle.std.specs.List.{slice_split, list_all}
use Rattle.std.specs.Cmp.Lexicographic.{pointwise}
use Rattle.std.specs.Str.{all_ascii_digits}
use Rattle.std.specs.Str.Parse.{digits_value}
use Rattle.base64.specs.Engines.{standard}
use Rattle.base64.specs.GeneralPurpose.{decoded_of}
use Rattle.kv_model.specs.declared.version.Rev.{Rev}
use Rattle.kv_model.specs.declared.version.Version.{Version}
use Rattle.kv_model.specs.declared.version.Body.TheVariants.{Put, Gone}
use Rattle.kv_model.specs.Certificates.{Claim, Need}
use Rattle.witness_core.specs.Older.{is_previous}
use Rattle.certificate_text.specs.Lines.{is}

abbrev pub same_text : List ℕ → List ℕ → Bool
same_text = pointwise nat_eq

-- ---- one field

abbrev pub has_zeros_before : List ℕ → Bool
has_zeros_before text = nat_lt 1 (length text) && slice_index text 0 == 48

-- the number that decimal digits write, up to a limit
abbrev pub number_up_to : ℕ → List ℕ → Option ℕ
number_up_to most text = if not (length text == 0) && all_ascii_digits text && nat_le (digits_value 10 text) most
    then Some (digits_value 10 text) else None

-- the same, without zeros before them
unfoldable pub number_of : ℕ → List ℕ → Option ℕ
number_of most text = if has_zeros_before text then None else number_up_to most text

abbrev pub below_zero : ℕ → Option ℤ
below_zero zero = None
below_zero (suc n) = Some (negsuc n)

-- a number of 64 signed bits; there is no zero with a sign
unfoldable pub lease_of : List ℕ → Option ℤ
lease_of [] = None
lease_of (x ∷ xs) = if x == 45 then option_and_then below_zero (number_of (2 ^ 63) xs)
    else option_map pos (number_of (2 ^ 63 - 1) (x ∷ xs))

abbrev pub is_byte : ℕ → Bool
is_byte b = nat_lt b 256

abbrev pub if_bytes : List ℕ → Option (List ℕ)
if_bytes bytes = if list_all is_byte bytes then Some bytes else None

-- the bytes that a text writes in base64, as it is written and in no other way
unfoldable pub decoded : List ℕ → Option (List ℕ)
decoded symbols = option_and_then if_bytes (option_and_then (decoded_of standard) (if_bytes symbols))

abbrev pub bytes_of : List ℕ → Option (List ℕ)
bytes_of [] = None
bytes_of (x ∷ xs) = if x == 58 then decoded xs else None

-- ---- the fields of a line, in their order

infixl 10 ◌>>=◌
abbrev pub ◌>>=◌ : {A B : Type 0} → Option A → (A → Option B) → Option B
None >>= f = None
(Some x) >>= f = f x

-- the next field, and the fields after it
abbrev pub next_by : {A : Type 0} → (List ℕ → Option A) → List (List ℕ) → Option (A × List (List ℕ))
next_by read [] = None
next_by read (x ∷ xs) = option_map (λ a. (a, xs)) (read x)

abbrev pub most_revision : ℕ
most_revision = 2 ^ 63 - 1

unfoldable pub revision_at : List (List ℕ) → Option (ℕ × List (List ℕ))
revision_at = next_by (number_of most_revision)

unfoldable pub sub_at : List (List ℕ) → Option (ℕ × List (List ℕ))
sub_at = next_by (number_of (2 ^ 64 - 1))

unfoldable pub lease_at : List (List ℕ) → Option (ℤ × List (List ℕ))
lease_at = next_by lease_of

unfoldable pub bytes_at : List (List ℕ) → Option (List ℕ × List (List ℕ))
bytes_at = next_by bytes_of

-- nothing is left
unfoldable pub end_at : List (List ℕ) → Option ⊤
end_at [] = Some tt
end_at (x ∷ xs) = None

unfoldable pub rev_at : List (List ℕ) → Option (Rev × List (List ℕ))
rev_at xs = do
  main ← revision_at xs
  sub ← sub_at main.1
  Some (record { main = main.0; sub = sub.0 }, sub.1)

unfoldable pub put_of : List (List ℕ) → Option Version
put_of xs = do
  rev ← rev_at xs
  key ← bytes_at rev.1
  create ← revision_at key.1
  version ← revision_at create.1
  lease ← lease_at version.1
  value ← bytes_at lease.1
  last ← end_at value.1
  Some (record { rev = rev.0; key = key.0; body = Put create.0 version.0 lease.0 value.0 })

unfoldable pub gone_of : List (List ℕ) → Option Version
gone_of xs = do
  rev ← rev_at xs
  key ← bytes_at rev.1
  last ← end_at key.1
  Some (record { rev = rev.0; key = key.0; body = Gone })

unfoldable pub claim_by : (ℕ → Need) → List (List ℕ) → Option Claim
claim_by need xs = do
  rev ← rev_at xs
  r ← revision_at rev.1
  last ← end_at r.1
  Some (record { rev = rev.0; need = need r.0 })

abbrev pub fields_of : List ℕ → List (List ℕ)
fields_of = slice_split (is 32)

abbrev pub version_by : List (List ℕ) → Option Version
version_by [] = None
version_by (word ∷ xs) = if same_text word (codes "put") then put_of xs
    else (if same_text word (codes "gone") then gone_of xs else None)

abbrev pub claim_at : List (List ℕ) → Option Claim
claim_at [] = None
claim_at (word ∷ xs) = if same_text word (codes "range") then claim_by Need.range xs
    else (if same_text word (codes "watch") then claim_by Need.watch xs
    else (if same_text word (codes "prev") then claim_by Need.prev xs else None))

unfoldable pub alone : List (List ℕ) → Option ℕ
alone xs = do
  n ← revision_at xs
  last ← end_at n.1
  Some n.0

abbrev pub number_by : List ℕ → List (List ℕ) → Option ℕ
number_by known [] = None
number_by known (word ∷ xs) = if same_text word known then alone xs else None

-- the version of a line
unfoldable pub version_of : List ℕ → Option Version
version_of line = version_by (fields_of line)

-- the claim of a line
unfoldable pub claim_of : List ℕ → Option Claim
claim_of line = claim_at (fields_of line)

-- the same in a format: the first has no line of a previous value
abbrev pub if_fits : Bool → Claim → Option Claim
if_fits first claim = if first && is_previous claim.need then None else Some claim

unfoldable pub claim_in : Bool → List ℕ → Option Claim
claim_in first line = option_and_then (if_fits first) (claim_of line)

-- the number behind a word
unfoldable pub numbered : List ℕ → List ℕ → Option ℕ
numbered known line = number_by known (fields_of line)

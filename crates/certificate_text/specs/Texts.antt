-- The text of a dump and of what its versions are needed for: format 2, and format 1 that was before it.
use Rattle.std.specs.Prelude.{⊤, ℕ, ◌<◌, ◌^◌, List, [], ◌∷◌, ◌++◌, map, codes, decimal, FitsSigned}
use Rattle.std.specs.Prelude.{Bool, true, false}
use Rattle.std.specs.Fmt.{signed_decimal}
use Rattle.std.specs.Int.{w64}
use Rattle.std.specs.List.{flat_map, join_with_byte, AllByRecursion}
use Rattle.base64.specs.Engines.{standard}
use Rattle.base64.specs.GeneralPurpose.{encode_of, IsBytes}
use Rattle.kv_model.specs.declared.version.Rev.{Rev}
use Rattle.kv_model.specs.declared.version.Version.{Version}
use Rattle.kv_model.specs.declared.version.Body.{Body}
use Rattle.kv_model.specs.declared.version.Body.TheVariants.{Put, Gone}
use Rattle.kv_model.specs.Certificates.{Dump, Claim, Need}
use Rattle.witness_core.specs.Older.{HasNoPrevious}

-- ---- lines

-- padded base64 (RFC 4648, section 4)
unfoldable pub base64_text : List ℕ → List ℕ
base64_text bytes = encode_of standard bytes

-- bytes in a line: a colon, and their base64
abbrev pub bytes_field : List ℕ → List ℕ
bytes_field bytes = 58 ∷ base64_text bytes

-- what a version is, where it stands and its key, by fields
abbrev pub body_fields : Rev → List ℕ → Body → List (List ℕ)
body_fields p key (Put create version lease value) = codes "put" ∷ decimal p.main ∷ decimal p.sub ∷ bytes_field key
    ∷ decimal create ∷ decimal version ∷ signed_decimal lease ∷ bytes_field value ∷ []
body_fields p key Gone = codes "gone" ∷ decimal p.main ∷ decimal p.sub ∷ bytes_field key ∷ []

-- what a version is needed for, and the revision of that
abbrev pub need_fields : Rev → Need → List (List ℕ)
need_fields p (Need.range r) = codes "range" ∷ decimal p.main ∷ decimal p.sub ∷ decimal r ∷ []
need_fields p (Need.watch r) = codes "watch" ∷ decimal p.main ∷ decimal p.sub ∷ decimal r ∷ []
need_fields p (Need.prev r) = codes "prev" ∷ decimal p.main ∷ decimal p.sub ∷ decimal r ∷ []

-- a line is its fields, parted by one space
abbrev pub line_of : List (List ℕ) → List ℕ
line_of = join_with_byte 32

abbrev pub version_line : Version → List ℕ
version_line v = line_of (body_fields v.rev v.key v.body)

abbrev pub claim_line : Claim → List ℕ
claim_line claim = line_of (need_fields claim.rev claim.need)

-- a word and a number
abbrev pub number_line : List ℕ → ℕ → List ℕ
number_line word n = line_of (word ∷ decimal n ∷ [])

-- ---- texts

-- lines up to one that says so
abbrev pub ended : List (List ℕ) → List (List ℕ)
ended ls = ls ++ codes "end" ∷ []

-- the first line of each part, by whether the format is the first: both parts are of the same one
abbrev pub dump_head : Bool → List ℕ
dump_head true = codes "dump 1"
dump_head false = codes "dump 2"

abbrev pub needs_head : Bool → List ℕ
needs_head true = codes "needs 1"
needs_head false = codes "needs 2"

abbrev pub dump_lines : Bool → Dump → List (List ℕ)
dump_lines first d = dump_head first ∷ number_line (codes "floor") d.floor ∷ number_line (codes "revision") d.revision
    ∷ ended (map version_line d.versions)

abbrev pub needs_lines : Bool → List Claim → List (List ℕ)
needs_lines first claims = needs_head first ∷ ended (map claim_line claims)

abbrev pub text_lines : Bool → Dump → List Claim → List (List ℕ)
text_lines first d claims = dump_lines first d ++ needs_lines first claims

-- lines in a row, a line feed behind each
abbrev pub written : List (List ℕ) → List ℕ
written = flat_map (λ line. line ++ 10 ∷ [])

-- the text of a dump and of its claims
abbrev pub text_in : Bool → Dump → List Claim → List ℕ
text_in first d claims = written (text_lines first d claims)

-- the text that is written: of format 2
abbrev pub text_of : Dump → List Claim → List ℕ
text_of = text_in false

-- the first format has no line of a previous value
abbrev pub FitFormat : Bool → List Claim → Type 0
FitFormat true claims = HasNoPrevious claims
FitFormat false claims = ⊤

-- ---- limits

abbrev pub IsRevision : ℕ → Type 0
IsRevision n = n < 2 ^ 63

abbrev pub IsRev : Rev → Type 0
IsRev p = IsRevision p.main × (p.sub < 2 ^ 64)

abbrev pub IsBody : Body → Type 0
IsBody (Put create version lease value) = IsRevision create × IsRevision version × FitsSigned w64 lease × IsBytes value
IsBody Gone = ⊤

abbrev pub IsVersion : Version → Type 0
IsVersion v = IsRev v.rev × IsBytes v.key × IsBody v.body

abbrev pub IsNeed : Need → Type 0
IsNeed (Need.range r) = IsRevision r
IsNeed (Need.watch r) = IsRevision r
IsNeed (Need.prev r) = IsRevision r

abbrev pub IsClaim : Claim → Type 0
IsClaim claim = IsRev claim.rev × IsNeed claim.need

-- the numbers are within the limits of either format, and keys and values are bytes
pub record AreInLimits (d : Dump) (claims : List Claim) : Type 0 where
  pub floor : IsRevision d.floor
  pub revision : IsRevision d.revision
  pub versions : AllByRecursion IsVersion d.versions
  pub needs : AllByRecursion IsClaim claims

-- The lines of a text that is read, and the first of them at which no text goes on.
use Rattle.std.specs.Prelude.{◌≡◌, ℕ, ◌+◌, ◌==◌, List, [], ◌∷◌, ◌++◌, length, Bool, if◌then◌else◌, ◌⊎◌}
use Rattle.std.specs.List.{slice_split}
use Rattle.kv_model.specs.Certificates.{Dump, Claim}
use Rattle.certificate_text.specs.Texts.{text_in, text_lines, AreInLimits, FitFormat}

abbrev pub is : ℕ → ℕ → Bool
is at b = b == at

-- the parts between line feeds; an empty one behind the last is no line
abbrev pub lines_of_parts : List (List ℕ) → List (List ℕ)
lines_of_parts [] = []
lines_of_parts (part ∷ []) = if length part == 0 then [] else part ∷ []
lines_of_parts (part ∷ next ∷ parts) = part ∷ lines_of_parts (next ∷ parts)

-- the lines of a text; a last one without a line feed counts
abbrev pub lines_of : List ℕ → List (List ℕ)
lines_of text = lines_of_parts (slice_split (is 10) text)

-- the text of a dump and its claims in a format, whose last line feed may be missing
abbrev pub IsTextIn : Bool → List ℕ → Dump → List Claim → Type 0
IsTextIn first text d claims = (text ≡ text_in first d claims) ⊎ (text ++ 10 ∷ [] ≡ text_in first d claims)

-- their text in a format that has all of the claims
abbrev pub IsTextOf : List ℕ → Dump → List Claim → Type 0
IsTextOf text d claims = (first : Bool) × FitFormat first claims × IsTextIn first text d claims

-- the format has lines for all of the claims, and the numbers are within its limits
abbrev pub HasText : Bool → Dump → List Claim → Type 0
HasText first d claims = AreInLimits d claims × FitFormat first claims

-- some text of either format begins with these lines
abbrev pub Begins : List (List ℕ) → Type 0
Begins ls = (first : Bool) × (d : Dump) × (claims : List Claim) × (rest : List (List ℕ)) × HasText first d claims
    × (text_lines first d claims ≡ ls ++ rest)

-- these are all lines of some text of either format
abbrev pub IsWhole : List (List ℕ) → Type 0
IsWhole ls = (first : Bool) × (d : Dump) × (claims : List Claim) × HasText first d claims
    × (text_lines first d claims ≡ ls)

-- behind some lines no text of either format goes on with the next one, or with none where there is none
abbrev pub Stops : List (List ℕ) → List (List ℕ) → Type 0
Stops before [] = IsWhole before → ⊥
Stops before (line ∷ after) = Begins (before ++ line ∷ []) → ⊥

-- the number of the first line at which no text goes on, where lines are counted from 1; that of a missing line is the
-- one after the last
abbrev pub IsFirstUnreadable : List (List ℕ) → ℕ → Type 0
IsFirstUnreadable ls n = (before : List (List ℕ)) × (after : List (List ℕ)) × (ls ≡ before ++ after)
    × (n ≡ length before + 1) × Begins before × Stops before after

-- What is written down of the events of a store: the lines of a script that asks for them.
use Rattle.std.specs.Prelude.{◌≡◌, ℕ, List, [], ◌∷◌, ◌++◌, map, max, codes, decimal, Bool, false}
use Rattle.std.specs.Prelude.{if◌then◌else◌, ◌==◌, ◌||◌, ◌&&◌, MatchBool}
use Rattle.std.specs.List.{concat}
use Rattle.kv_model.specs.Wire.{WireEvent}

-- ---- an event

-- a byte of a line: a line feed and a carriage return would end it, and are white space in the JSON of a body
abbrev pub within_line : ℕ → ℕ
within_line b = if b == 10 || b == 13 then 32 else b

abbrev pub line_of : WireEvent → List ℕ
line_of (WireEvent.moment n) = codes "AT " ++ decimal n ++ 10 ∷ []
line_of (WireEvent.post path body) = codes "POST " ++ path ++ 32 ∷ map within_line body ++ 10 ∷ []
line_of (WireEvent.deliver n) = codes "DELIVER " ++ decimal n ++ 10 ∷ []
line_of (WireEvent.close n) = codes "CLOSE " ++ decimal n ++ 10 ∷ []
line_of WireEvent.expire = codes "EXPIRE\n"
line_of WireEvent.trim = codes "TRIM\n"
line_of WireEvent.certify = codes "CERTIFY\n"

-- the clock, where it is not the moment that was told last
abbrev pub moment_line : ℕ → ℕ → List ℕ
moment_line told clock = if told == clock then [] else line_of (WireEvent.moment clock)

abbrev pub lines_of : ℕ → ℕ → WireEvent → List ℕ
lines_of told clock e = moment_line told clock ++ line_of e

-- ---- the lines

-- of the lines: the texts that were taken, the text that was not, the greatest moment that was handed in, the one that the
-- last line of the clock tells, whether the last line is that of a trimming step that said Done, and whether a line was lost
pub record Written : Type 0 where
  pub taken : List (List ℕ)
  pub text : List ℕ
  pub clock : ℕ
  pub told : ℕ
  pub is_trimmed : Bool
  pub is_lost : Bool

-- all that was ever written
abbrev pub all_of : Written → List ℕ
all_of l = concat l.taken ++ l.text

-- no event was made, at the moment 0
abbrev pub blank : Bool → Written
blank lost = record { taken = []; text = []; clock = 0; told = 0; is_trimmed = false; is_lost = lost }

-- a moment was handed in: one before an earlier one leaves the clock
abbrev pub handed : Written → ℕ → Written
handed l now = record l { clock = max l.clock now }

-- where no line is lost, that of the event was written; or it is lost now, and nothing was written
abbrev pub IsNotedAnew : WireEvent → Written → Written → Type 0
IsNotedAnew e old new = MatchBool new.is_lost
    (new.text ≡ old.text)
    ((new.text ≡ old.text ++ lines_of old.told old.clock e) × (new.told ≡ old.clock) × (new.is_trimmed ≡ false))

abbrev pub IsNoted : WireEvent → Written → Written → Type 0
IsNoted e old new = (new.clock ≡ old.clock) × (new.taken ≡ old.taken) × MatchBool old.is_lost (new ≡ old) (IsNotedAnew e old new)

-- a trimming step, unless it says Done and so did the event before
abbrev pub IsTrimNoted : Bool → Written → Written → Type 0
IsTrimNoted done old new = MatchBool (done && old.is_trimmed) (new ≡ old)
    ((noted : Written) × IsNoted WireEvent.trim old noted × (new ≡ record noted { is_trimmed = done }))

-- What whoever takes the lines is given: the script of the list, piece by piece.
use Rattle.std.specs.Prelude.{◌≡◌, ℕ, Bool, true, false, List, [], ◌++◌, MatchBool, if◌then◌else◌, not}
use mathlib.Core.List.{IsPrefix}
use Rattle.event_book.specs.Events.{Entry}
use Rattle.event_script.specs.Scripts.{Taken, script_of}

-- nothing was taken yet; where no line will come, that is over
abbrev pub untaken : Bool → Taken
untaken over = record { front = []; is_over = over }

-- all is taken that was written of this list, of which lines are missing or not; once they are, nothing more is
abbrev pub taken_next : Taken → Bool → List Entry → Taken
taken_next t all log = if t.is_over then t else record { front = log; is_over = not all }

-- the text goes on where the one before ended: with all before it, it is the script of the list up to here
abbrev pub GoesOn : Taken → Taken → List ℕ → Type 0
GoesOn old new text = (new.is_over ≡ false) × (script_of new.front ≡ script_of old.front ++ text)

-- or lines are missing: that of a beginning of it
pub record Ends (old new : Taken) (text : List ℕ) : Type 0 where
  pub over : new.is_over ≡ true
  pub cut : List Entry
  pub begins : IsPrefix cut new.front
  pub lines : script_of cut ≡ script_of old.front ++ text

-- The text was taken, and this says whether none is missing. Once some are, no text comes.
pub record Takes (old new : Taken) (text : List ℕ) (all : Bool) : Type 0 where
  pub begins : IsPrefix old.front new.front
  pub lines : MatchBool old.is_over ((all ≡ false) × (new ≡ old) × (text ≡ []))
      (MatchBool all (GoesOn old new text) (Ends old new text))

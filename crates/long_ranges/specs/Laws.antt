-- Why a Range can be read in parts, one after the other, while others change the store.
use Rattle.std.specs.Prelude.{◌≡◌, ℕ, ◌≤◌, List, [], ◌++◌, true, false, None}
use mathlib.Core.List.{IsPrefix}
use Rattle.kv_model.specs.declared.version.Rev.{Rev}
use Rattle.kv_model.specs.declared.version.Version.{Version}
use Rattle.kv_model.specs.declared.version.KeyRange.{KeyRange}
use Rattle.kv_model.specs.History.{end_of, value_at}
use Rattle.kv_model.specs.Keys.{in_range, same_key, zero_byte}
use Rattle.kv_model.specs.Lists.{is_empty}
use Rattle.kv_model.specs.Ranges.{live}
use Rattle.kv_model.specs.World.{revision, versions}
use Rattle.event_book.specs.Events.{Entry, led_to}

-- What the keys of a range held at the end of a revision they hold there behind whatever came later.
abbrev pub LaterSaysTheSame : Type 0
LaterSaysTheSame = (log later : List Entry) → IsPrefix log later → (r : ℕ) → r ≤ revision (led_to log) → (range : KeyRange)
    → live (versions (led_to later)) (end_of r) range ≡ live (versions (led_to log)) (end_of r) range

-- and no revision is taken back
abbrev pub RevisionsRise : Type 0
RevisionsRise = (log later : List Entry) → IsPrefix log later → revision (led_to log) ≤ revision (led_to later)

-- the keys of a range that are below a key, and those from it on
abbrev pub below : KeyRange → List ℕ → KeyRange
below r k = record { key = r.key; end = k }

abbrev pub from : KeyRange → List ℕ → KeyRange
from r k = record { key = k; end = r.end }

-- A key at which a range can be cut: one of its keys; no bound of ranges has no byte, and none that is the byte 0 is an end.
pub record IsCut (r : KeyRange) (k : List ℕ) : Type 0 where
  pub within : in_range r k ≡ true
  pub has_bytes : is_empty k ≡ false
  pub is_end : same_key k zero_byte ≡ false

-- What is live in a range of several keys is what is live below a key of it, and then what is live from that key on.
abbrev pub PartsMakeTheWhole : Type 0
PartsMakeTheWhole = (vs : List Version) (p : Rev) (r : KeyRange) (k : List ℕ) → value_at vs p [] ≡ None → is_empty r.end ≡ false
    → IsCut r k → live vs p (below r k) ++ live vs p (from r k) ≡ live vs p r

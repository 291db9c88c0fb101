-- The versions that a transaction makes, and its first refusal, told from what is seen at a place before it.
use Rattle.std.specs.Prelude.{◌≡◌, ◌⊎◌, ℕ, ℤ, List, [], ◌∷◌, ◌++◌, length, filter, Bool, true, false, ◌&&◌}
use Rattle.std.specs.Prelude.{if◌then◌else◌, Option, None, Some, is_some, MatchBool, ⊤}
use Rattle.std.specs.Prelude.{Result, Ok, Err}
use Rattle.std.specs.Option.{option_or}
use Rattle.std.specs.List.{list_any}
use Rattle.std.specs.Borrow.{Bor}
use Rattle.kv_model.specs.declared.version.Rev.{Rev}
use Rattle.kv_model.specs.declared.version.Version.{Version}
use Rattle.kv_model.specs.declared.version.KeyRange.{KeyRange}
use Rattle.kv_model.specs.declared.refusal.Refusal.{Refusal}
use Rattle.kv_model.specs.declared.refusal.Refusal.TheVariants.{Memory}
use Rattle.kv_model.specs.Keys.{same_key}
use Rattle.kv_model.specs.History.{value_at, end_of, is_tombstone, rev_le}
use Rattle.kv_model.specs.Ranges.{keys_of, live, revision_refusal}
use Rattle.kv_model.specs.Txns.{Path, path_of}
use Rattle.kv_model.specs.Calls.{Ops}
use Rattle.kv_model.specs.Leases.{Lease, is_granted}
use Rattle.range_view.specs.Stored.{Viewed}
use Rattle.swept_ranges.specs.Swept.{covers}
use Rattle.txn_core.specs.KeyWrites.{held_refusal, put_version, tombstone, number_after, as_kept}

-- ---- what is deleted so far

-- the version is a tombstone of the key
abbrev pub buries : List ℕ → Version → Bool
buries k v = is_tombstone v.body && same_key v.key k

-- one of the versions is a tombstone of the key
abbrev pub is_gone : List Version → List ℕ → Bool
is_gone ws k = list_any (buries k) ws

-- with a tombstone of the key, if there is none yet
abbrev pub with_grave : ℕ → List Version → List ℕ → List Version
with_grave main ws k = if is_gone ws k then ws else ws ++ tombstone main (length ws) k ∷ []

-- and of each of some keys
abbrev pub with_graves : ℕ → List Version → List (List ℕ) → List Version
with_graves main ws [] = ws
with_graves main ws (k ∷ ks) = with_graves main (with_grave main ws k) ks

-- each live key that these ranges cover is deleted by one of the versions
abbrev pub AreGone : Viewed → List Version → List (Bor KeyRange) → Type 0
AreGone v ws rs = (k : List ℕ) → covers rs k ≡ true → is_some (value_at v.versions v.place k) ≡ true → is_gone ws k ≡ true

-- ---- the operations that run

-- these versions, and behind them those of the path, numbered on
unfoldable pub made : List Version → Rev → ℕ → List Version → Path → List Version
made vs p main ws Path.end = ws
made vs p main ws (Path.range q rest) = made vs p main ws rest
made vs p main ws (Path.put r rest) = made vs p main
    (ws ++ as_kept (put_version (record { main = main; sub = length ws }) r (value_at vs p r.key)) ∷ []) rest
made vs p main ws (Path.delete d rest) = made vs p main (with_graves main ws (keys_of (live vs p d.range))) rest
made vs p main ws (Path.txn b inner rest) = made vs p main (made vs p main ws inner) rest

-- the first refusal of the operations that run, in order
unfoldable pub refusal_of : (ℤ → Bool) → ℕ → ℕ → List Version → Rev → Path → Option Refusal
refusal_of granted c now vs p Path.end = None
refusal_of granted c now vs p (Path.range q rest) = option_or (revision_refusal c now q.revision)
    (refusal_of granted c now vs p rest)
refusal_of granted c now vs p (Path.put r rest) = option_or (held_refusal granted r (value_at vs p r.key))
    (refusal_of granted c now vs p rest)
refusal_of granted c now vs p (Path.delete d rest) = refusal_of granted c now vs p rest
refusal_of granted c now vs p (Path.txn b inner rest) = option_or (refusal_of granted c now vs p inner)
    (refusal_of granted c now vs p rest)

abbrev pub is_memory : Refusal → Bool
is_memory Memory = true
is_memory _ = false

-- a refusal is the first one, but for want of memory, which may come in its place
abbrev pub IsRefusal : Refusal → Option Refusal → Type 0
IsRefusal e first = MatchBool (is_memory e) ⊤ (first ≡ Some e)

-- a refusal is this fault, which is found before memory is asked for: want of memory comes only where there is no fault
abbrev pub IsFault : Refusal → Option Refusal → Type 0
IsFault e fault = (fault ≡ Some e) ⊎ ((fault ≡ None) × (e ≡ Memory))

-- a refusal is the fault that is found before memory is asked for, and where there is none, the first one or want of memory
abbrev pub IsFirst : Refusal → Option Refusal → Option Refusal → Type 0
IsFirst e fault first = (fault ≡ Some e) ⊎ ((fault ≡ None) × IsRefusal e first)

-- ---- what is refused before memory is asked for

-- The refusal of the operations of a row before memory is asked for: that of the first, a Range or a put. A transaction
-- without compares asks for none before the first operation on success; else its compares do.
unfoldable pub at_once : (ℤ → Bool) → ℕ → ℕ → List Version → Rev → Ops → Option Refusal
at_once granted c now vs p Ops.no_ops = None
at_once granted c now vs p (Ops.range q rest) = revision_refusal c now q.revision
at_once granted c now vs p (Ops.put r rest) = held_refusal granted r (value_at vs p r.key)
at_once granted c now vs p (Ops.delete d rest) = None
at_once granted c now vs p (Ops.txn [] s f rest) = at_once granted c now vs p s
at_once granted c now vs p (Ops.txn (cmp ∷ cs) s f rest) = None

-- where there is such a refusal, it is told
abbrev pub IsAtOnce : Refusal → Option Refusal → Type 0
IsAtOnce e None = ⊤
IsAtOnce e (Some f) = e ≡ f

-- and nothing else comes of it
abbrev pub TellsAtOnce : {X : Type 0} → Result X Refusal → Option Refusal → Type 0
TellsAtOnce (Ok x) o = o ≡ None
TellsAtOnce (Err e) o = IsAtOnce e o

-- ---- the same, on a view

abbrev pub path_in : Viewed → Ops → Path
path_in v ops = path_of v.versions v.revision ops

-- the versions that a path adds to those that are made already
abbrev pub versions_made_in : Viewed → List Version → Path → List Version
versions_made_in v ws q = made v.versions v.place (number_after v.revision) ws q

abbrev pub refusal_in : Viewed → List Lease → Path → Option Refusal
refusal_in v ls q = refusal_of (is_granted ls) v.compacted v.revision v.versions v.place q

abbrev pub at_once_in : Viewed → List Lease → Ops → Option Refusal
at_once_in v ls ops = at_once (is_granted ls) v.compacted v.revision v.versions v.place ops

-- the view is of the end of its revision
abbrev pub IsPresent : Viewed → Type 0
IsPresent v = v.place ≡ end_of v.revision

-- ---- what a transaction is planned on

-- the versions that stand at the end of the view's revision: all, where it is the present one
abbrev pub present : Viewed → List Version
present v = filter (λ w. rev_le w.rev (end_of v.revision)) v.versions

-- The changes of a transaction in which nothing clashes, told from the state before it: a key that is put is touched by
-- nothing else, and a delete takes what no earlier delete has taken.
use Rattle.std.specs.Prelude.{◌≡◌, ℕ, ℤ, List, [], ◌∷◌, ◌++◌, length, filter, Bool, not, Option, None, ⊤}
use Rattle.std.specs.Option.{option_or}
use Rattle.std.specs.List.{list_any}
use Rattle.kv_model.specs.declared.version.Version.{Version}
use Rattle.kv_model.specs.declared.version.KeyRange.{KeyRange}
use Rattle.kv_model.specs.declared.refusal.Refusal.{Refusal}
use Rattle.kv_model.specs.History.{Mutation, deletes_key}
use Rattle.kv_model.specs.Ranges.{keys_of, live_now, revision_refusal}
use Rattle.kv_model.specs.Txns.{Path, Touch, put_change, deletes_of, put_refusal}

-- what the operations that run may change
abbrev pub path_touches : Path → List Touch
path_touches Path.end = []
path_touches (Path.range q rest) = path_touches rest
path_touches (Path.put p rest) = Touch.one p.key ∷ path_touches rest
path_touches (Path.delete d rest) = Touch.each d.range ∷ path_touches rest
path_touches (Path.txn b inner rest) = path_touches inner ++ path_touches rest

-- one of the changes deletes the key
abbrev pub is_deleted : List Mutation → List ℕ → Bool
is_deleted us k = list_any (deletes_key k) us

-- the live keys of a range, without those that the changes have deleted
abbrev pub still_live : List Version → List Mutation → KeyRange → List (List ℕ)
still_live vs us r = filter (λ k. not (is_deleted us k)) (keys_of (live_now vs r))

-- these changes, and behind them those of the path, numbered on
unfoldable pub planned : List Version → ℕ → List Mutation → Path → List Mutation
planned vs main us Path.end = us
planned vs main us (Path.range q rest) = planned vs main us rest
planned vs main us (Path.put p rest) = planned vs main (us ++ put_change vs main (length us) p ∷ []) rest
planned vs main us (Path.delete d rest) = planned vs main (us ++ deletes_of main (length us) (still_live vs us d.range))
    rest
planned vs main us (Path.txn b inner rest) = planned vs main (planned vs main us inner) rest

-- the first refusal of the operations that run, in order
unfoldable pub planned_refusal : (ℤ → Bool) → ℕ → ℕ → List Version → Path → Option Refusal
planned_refusal granted c now vs Path.end = None
planned_refusal granted c now vs (Path.range q rest) = option_or (revision_refusal c now q.revision)
    (planned_refusal granted c now vs rest)
planned_refusal granted c now vs (Path.put p rest) = option_or (put_refusal granted vs p) (planned_refusal granted c now
    vs rest)
planned_refusal granted c now vs (Path.delete d rest) = planned_refusal granted c now vs rest
planned_refusal granted c now vs (Path.txn b inner rest) = option_or (planned_refusal granted c now vs inner)
    (planned_refusal granted c now vs rest)

-- each Range of the path reads a revision that is kept, or none of its own
abbrev pub ReadsKept : ℕ → ℕ → Path → Type 0
ReadsKept c n Path.end = ⊤
ReadsKept c n (Path.range q rest) = (revision_refusal c n q.revision ≡ None) × ReadsKept c n rest
ReadsKept c n (Path.put p rest) = ReadsKept c n rest
ReadsKept c n (Path.delete d rest) = ReadsKept c n rest
ReadsKept c n (Path.txn b inner rest) = ReadsKept c n inner × ReadsKept c n rest

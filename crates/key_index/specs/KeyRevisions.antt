-- The revisions of one key, in order.
use Rattle.std.specs.Prelude.{ℕ, List, [], ◌∷◌, Bool, true, false, not, ◌&&◌, ◌==◌, ◌≤◌, nat_le, nat_lt}
use Rattle.std.specs.Prelude.{Option, None, Some, filter, if◌then◌else◌}
use Rattle.std.specs.List.{AllByRecursion, find, slice_get}
use Rattle.kv_model.specs.declared.version.Rev.{Rev}
use Rattle.kv_model.specs.Lists.{last_that, is_empty}
use Rattle.kv_model.specs.History.{rev_lt, rev_le}
use Rattle.store_laws.specs.Rising as rising
pub use Rattle.store_laws.specs.Rising.{newest, is_rev}

-- the place stands behind every revision
abbrev pub IsBehind : Rev → List Rev → Type 0
IsBehind p qs = rising.IsBehind (λ q. q) p qs

-- each revision stands before those after it
abbrev pub IsRising : List Rev → Type 0
IsRising qs = rising.IsRising (λ q. q) qs

-- the last revision that is not after the place, a tombstone's too
abbrev pub at_place : Rev → List Rev → Option Rev
at_place p qs = last_that (λ q. rev_le q p) qs

-- the first revision after the place, a tombstone's too
abbrev pub after_place : Rev → List Rev → Option Rev
after_place p qs = find (λ q. rev_lt p q) qs

-- the second revision, where it is the first after the place: the oldest is not after it
abbrev pub second_after : Rev → List Rev → Option Rev
second_after p [] = None
second_after p (q ∷ []) = None
second_after p (q ∷ r ∷ qs) = if rev_le q p && rev_lt p r then Some r else None

abbrev pub is_rev_up_to : ℕ → Option Rev → Bool
is_rev_up_to main None = false
is_rev_up_to main (Some q) = nat_le q.main main

-- the first revision after the place is of a main revision up to this one
abbrev pub is_followed : Rev → ℕ → List Rev → Bool
is_followed p main qs = is_rev_up_to main (after_place p qs)

-- how many revisions are not after the place, where they rise
abbrev pub count_up_to : Rev → List Rev → ℕ
count_up_to p qs = rising.count_while (λ q. rev_le q p) qs

-- ---- main revisions

-- how many revisions are of an earlier main revision, where they rise
abbrev pub count_before : ℕ → List Rev → ℕ
count_before main qs = rising.count_while (λ q. nat_lt q.main main) qs

-- the last one is of this main revision
abbrev pub ends_in : ℕ → List Rev → Bool
ends_in main qs = rising.is_of (λ q. q) main (newest qs)

-- no revision is of a later main revision
abbrev pub AreUpTo : ℕ → List Rev → Type 0
AreUpTo main qs = AllByRecursion (λ q. q.main ≤ main) qs

abbrev pub is_last_up_to : ℕ → Option Rev → Bool
is_last_up_to main None = true
is_last_up_to main (Some q) = nat_le q.main main

-- the last one is not of a later main revision
abbrev pub ends_up_to : ℕ → List Rev → Bool
ends_up_to main qs = is_last_up_to main (newest qs)

-- the revisions without those of a main revision at the end
abbrev pub undone : ℕ → List Rev → List Rev
undone main [] = []
undone main (q ∷ qs) = if is_empty (undone main qs) && q.main == main then [] else q ∷ undone main qs

-- ---- a revision taken out

abbrev pub is_same : Rev → Option Rev → Bool
is_same p None = false
is_same p (Some q) = is_rev p q

-- the first one is at the place
abbrev pub is_oldest : Rev → List Rev → Bool
is_oldest p qs = is_same p (slice_get qs 0)

-- the revisions without the one at a place
abbrev pub without : Rev → List Rev → List Rev
without p qs = filter (λ q. not (is_rev p q)) qs

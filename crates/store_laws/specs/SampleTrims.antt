-- Worked rows of trimming steps and certificates, over what each command publishes.
use Rattle.std.specs.Prelude.{◌≡◌, refl, ℕ, zero, suc, pos, List, [], ◌∷◌, ◌++◌, fold, None, Some, ⊤}
use Rattle.kv_model.specs.declared.version.Rev.{Rev}
use Rattle.kv_model.specs.declared.version.Version.{Version}
use Rattle.kv_model.specs.declared.version.Body.TheVariants.{Put}
use Rattle.kv_model.specs.Calls.{Call, Ops}
use Rattle.kv_model.specs.World.{World, opening}
use Rattle.kv_model.specs.SampleRuns.{Event, step, world_after}
use Rattle.kv_model.specs.Told.{Trimmed}
use Rattle.store_laws.specs.Trimming.{trimmed}
use Rattle.kv_model.specs.History.{is_superseded}
use Rattle.kv_model.specs.Certificates.{NeedFault, claims_of, first_fault, Dump, Claim, Need}
use Rattle.kv_model.specs.Feed.{Published}
use Rattle.store_laws.specs.Snapshots.{Stored, blank, absorb}
use Rattle.store_laws.specs.Changes.{change_between}
use Rattle.kv_model.specs.OnLiterals.{model_on_literals}
use Rattle.kv_model.specs.Samples.{a, b, c, x, y, one, two, put_of, put_event, delete_event, compact_event, rev_at}

-- an `unfolding` line that names this opens the definitions of trimming and of certificates
unfoldable pub trimming_on_literals : ⊤
unfolding trimmed is_superseded claims_of first_fault
trimming_on_literals = tt

-- what events publish, from a world on
abbrev pub published_by : World → List Event → List Published
published_by w [] = []
published_by w (e ∷ es) = change_between w (step w e).1 ++ published_by (step w e).1 es

-- a snapshot that takes what these events publish after others
abbrev pub absorbed : Stored → List Event → List Event → Stored
absorbed s before es = fold absorb s (published_by (world_after opening before) es)

-- what so many trimming steps tell
abbrev pub trims : ℕ → Stored → List Trimmed
trims zero s = []
trims (suc n) s = (trimmed s.versions s.place s.compacted).told ∷ trims n (absorb s Published.trim)

-- what they leave
abbrev pub after_trims : ℕ → Stored → Stored
after_trims zero s = s
after_trims (suc n) s = after_trims n (absorb s Published.trim)

abbrev pub removed_at : ℕ → Trimmed
removed_at main = Trimmed.removed (rev_at main)

abbrev pub kept_at : ℕ → Trimmed
kept_at main = Trimmed.kept (rev_at main)

-- ---- a put and its tombstone go, oldest first, and the last put stays

abbrev pub put_delete_compact : List Event
put_delete_compact = put_event a one ∷ delete_event a ∷ put_event b one ∷ compact_event (pos 4) ∷ []

pub both_go : trims 5 (absorbed blank [] put_delete_compact) ≡ removed_at 2 ∷ removed_at 3 ∷ kept_at 4 ∷ Trimmed.done 1
    ∷ Trimmed.done 1 ∷ []
unfolding model_on_literals trimming_on_literals
both_go = refl

-- ---- a tombstone at the compaction itself stays, and the put before it, which is its previous value

abbrev pub put_delete : List Event
put_delete = put_event a one ∷ delete_event a ∷ compact_event (pos 3) ∷ []

pub tombstone_stays : trims 3 (absorbed blank [] put_delete) ≡ kept_at 2 ∷ kept_at 3 ∷ Trimmed.done 2 ∷ []
unfolding model_on_literals trimming_on_literals
tombstone_stays = refl

-- ---- of a put at the compaction a tombstone before it is no previous value

abbrev pub put_again : List Event
put_again = put_event a one ∷ delete_event a ∷ put_event a two ∷ compact_event (pos 4) ∷ []

pub last_put_stays : trims 4 (absorbed blank [] put_again) ≡ removed_at 2 ∷ removed_at 3 ∷ kept_at 4 ∷ Trimmed.done 1 ∷ []
unfolding model_on_literals trimming_on_literals
last_put_stays = refl

-- ---- a second Compact begins with the oldest version again

abbrev pub first_changes : List Event
first_changes = put_event a one ∷ put_event a two ∷ put_event b one ∷ put_event a one ∷ compact_event (pos 4) ∷ []

abbrev pub later_changes : List Event
later_changes = delete_event b ∷ put_event a two ∷ put_event b two ∷ put_event c one ∷ compact_event (pos 9) ∷ []

abbrev pub before_second : Stored
before_second = absorbed blank [] first_changes

abbrev pub after_second : Stored
after_second = absorbed (after_trims 2 before_second) first_changes later_changes

pub half_way : trims 2 before_second ≡ removed_at 2 ∷ kept_at 3 ∷ []
unfolding model_on_literals trimming_on_literals
half_way = refl

pub from_the_oldest : trims 9 after_second
    ≡ removed_at 3 ∷ removed_at 4 ∷ removed_at 5 ∷ removed_at 6 ∷ kept_at 7 ∷ kept_at 8 ∷ kept_at 9 ∷ Trimmed.done 3
    ∷ Trimmed.done 3 ∷ []
unfolding model_on_literals trimming_on_literals
from_the_oldest = refl

-- ---- before the first Compact there is nothing to look at, and a done step counts the versions above the compaction too

pub nothing_to_trim : trims 1 blank ++ trims 1 (absorbed blank [] (put_event a one ∷ [])) ≡ Trimmed.done 0
    ∷ Trimmed.done 1 ∷ []
unfolding model_on_literals trimming_on_literals
nothing_to_trim = refl

pub one_key_twice : trims 4 (absorbed blank [] (put_event a one ∷ put_event a two ∷ put_event b one
    ∷ compact_event (pos 4) ∷ [])) ≡ removed_at 2 ∷ kept_at 3 ∷ kept_at 4 ∷ Trimmed.done 2 ∷ []
unfolding model_on_literals trimming_on_literals
one_key_twice = refl

-- ---- certificates

abbrev pub dumped : Stored → Dump
dumped s = record { floor = s.compacted; revision = s.revision; versions = s.versions }

abbrev pub range_need : ℕ → ℕ → Claim
range_need main r = record { rev = rev_at main; need = Need.range r }

abbrev pub watch_need : ℕ → ℕ → Claim
watch_need main r = record { rev = rev_at main; need = Need.watch r }

abbrev pub prev_need : ℕ → ℕ → Claim
prev_need main r = record { rev = rev_at main; need = Need.prev r }

pub nothing_dumped : claims_of (dumped blank) ≡ []
unfolding model_on_literals trimming_on_literals
nothing_dumped = refl

-- x and y are put by one transaction
abbrev pub two_puts : Dump
two_puts = dumped (absorbed blank [] (Event.command (Call.txn [] (Ops.put (put_of x one) (Ops.put (put_of y two) Ops.no_ops)) Ops.no_ops) ∷ []))

abbrev pub sub_one : Rev
sub_one = record { main = 2; sub = 1 }

pub two_needs : claims_of two_puts ≡ range_need 2 2 ∷ (record { rev = sub_one; need = Need.range 2 }) ∷ []
unfolding model_on_literals trimming_on_literals
two_needs = refl

pub two_needed : first_fault two_puts (claims_of two_puts) ≡ None
unfolding model_on_literals trimming_on_literals
two_needed = refl

-- before trimming some versions have no need, and after it each has one
pub untrimmed_needs : claims_of (dumped (absorbed blank [] put_delete_compact)) ≡ range_need 4 4 ∷ []
unfolding model_on_literals trimming_on_literals
untrimmed_needs = refl

pub untrimmed_fails : first_fault (dumped (absorbed blank [] put_delete_compact)) (range_need 4 4 ∷ [])
    ≡ Some (NeedFault.no_need (rev_at 2))
unfolding model_on_literals trimming_on_literals
untrimmed_fails = refl

pub trimmed_passes : first_fault (dumped (after_trims 3 (absorbed blank [] put_delete_compact))) (range_need 4 4 ∷ [])
    ≡ None
unfolding model_on_literals trimming_on_literals
trimmed_passes = refl

pub tombstone_need : claims_of (dumped (after_trims 3 (absorbed blank [] put_delete))) ≡ prev_need 2 3 ∷ watch_need 3 3
    ∷ []
unfolding model_on_literals trimming_on_literals
tombstone_need = refl

pub tombstone_needed : first_fault (dumped (absorbed blank [] put_delete)) (prev_need 2 3 ∷ watch_need 3 3 ∷ []) ≡ None
unfolding model_on_literals trimming_on_literals
tombstone_needed = refl

-- a watch of the put's own revision does not ask for its value, and is below the floor
pub previous_unmet : first_fault (dumped (absorbed blank [] put_delete)) (prev_need 2 2 ∷ watch_need 3 3 ∷ [])
    ≡ Some (NeedFault.need_unmet (rev_at 2))
unfolding model_on_literals trimming_on_literals
previous_unmet = refl

-- ---- what a check finds

abbrev pub four_puts : Dump
four_puts = dumped (absorbed blank [] (put_event a one ∷ put_event b one ∷ put_event a one ∷ put_event a one ∷ []))

-- the version at 4 does not answer a Range at 5: the one at 5 does
pub need_unmet : first_fault four_puts (range_need 2 2 ∷ range_need 3 3 ∷ range_need 4 5 ∷ range_need 5 5 ∷ [])
    ≡ Some (NeedFault.need_unmet (rev_at 4))
unfolding model_on_literals trimming_on_literals
need_unmet = refl

pub needs_met : first_fault four_puts (range_need 2 2 ∷ range_need 3 3 ∷ range_need 4 4 ∷ range_need 5 5 ∷ []) ≡ None
unfolding model_on_literals trimming_on_literals
needs_met = refl

pub need_missing : first_fault four_puts (range_need 2 2 ∷ range_need 3 3 ∷ range_need 5 5 ∷ [])
    ≡ Some (NeedFault.no_need (rev_at 4))
unfolding model_on_literals trimming_on_literals
need_missing = refl

pub need_left_over : first_fault two_puts (claims_of two_puts ++ range_need 2 2 ∷ []) ≡ Some NeedFault.extra
unfolding model_on_literals trimming_on_literals
need_left_over = refl

abbrev pub put_at : Rev → List ℕ → List ℕ → Version
put_at p k v = record { rev = p; key = k; body = Put 2 1 (pos 0) v }

abbrev pub two_of : Version → Version → Dump
two_of v w = record { floor = 0; revision = 2; versions = v ∷ w ∷ [] }

pub not_rising : first_fault (two_of (put_at (rev_at 2) x one) (put_at (rev_at 2) y two)) (range_need 2 2
    ∷ range_need 2 2 ∷ []) ≡ Some (NeedFault.not_rising (rev_at 2))
unfolding model_on_literals trimming_on_literals
not_rising = refl

pub double_key : first_fault (two_of (put_at (rev_at 2) x one) (put_at sub_one x two)) (range_need 2 2
    ∷ (record { rev = sub_one; need = Need.range 2 }) ∷ []) ≡ Some (NeedFault.double_key (rev_at 2))
unfolding model_on_literals trimming_on_literals
double_key = refl

pub empty_key : first_fault (two_of (put_at (rev_at 2) [] one) (put_at sub_one y two)) (range_need 2 2
    ∷ (record { rev = sub_one; need = Need.range 2 }) ∷ []) ≡ Some (NeedFault.need_unmet (rev_at 2))
unfolding model_on_literals trimming_on_literals
empty_key = refl

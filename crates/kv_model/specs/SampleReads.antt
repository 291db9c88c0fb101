-- Worked rows of puts, reads and deletes.
use Rattle.std.specs.Prelude.{◌≡◌, refl, ℕ, ◌-◌, ◌^◌, pos, List, [], ◌∷◌, true, false, Some, codes}
use Rattle.kv_model.specs.declared.call.SortOrder.TheVariants.{Descend}
use Rattle.kv_model.specs.declared.call.SortTarget.TheVariants.{ByVersion}
use Rattle.kv_model.specs.declared.refusal.Refusal.TheVariants.{NoKey, KeyMissing, Future, Compacted, RevisionsSpent}
use Rattle.kv_model.specs.History.{Action}
use Rattle.kv_model.specs.Ranges.{plain_range}
use Rattle.kv_model.specs.Calls.{Call}
use Rattle.kv_model.specs.World.{World, opening}
use Rattle.kv_model.specs.Told.{Reply}
use Rattle.kv_model.specs.SampleRuns.{Event, told_by}
use Rattle.kv_model.specs.OnLiterals.{model_on_literals}
use Rattle.kv_model.specs.Samples.{a, b, c, one, two, put_of, put_event, delete_event, range_event, all_query}
use Rattle.kv_model.specs.Samples.{compact_event, told, refused, put_reply, kv_of, found, told_after, rev_at, puts}
use Rattle.kv_model.specs.Samples.{put_delete_put}

pub put_and_read : told_by opening (put_event (codes "foo") (codes "bar") ∷ range_event (plain_range (codes "foo") 0)
    ∷ [])
    ≡ put_reply 2 ∷ found 2 (kv_of (codes "foo") (codes "bar") 2 2 1 ∷ []) 1 false ∷ []
unfolding model_on_literals
put_and_read = refl

pub read_of_nothing : told_by opening (range_event (plain_range (codes "foo") 0) ∷ []) ≡ found 1 [] 0 false ∷ []
unfolding model_on_literals
read_of_nothing = refl

-- a put without a key changes nothing
pub put_without_key : told_by opening (put_event [] (codes "bar") ∷ put_event (codes "foo") (codes "bar") ∷ [])
    ≡ refused NoKey ∷ put_reply 2 ∷ []
unfolding model_on_literals
put_without_key = refl

-- ---- what a Range asks for: limit, order, filters, count alone

pub limited : told_after puts (range_event (record all_query { limit = pos 1 }) ∷ []) ≡ found 5 (kv_of a one 2 2 1
    ∷ []) 3 true ∷ []
unfolding model_on_literals
limited = refl

pub by_version_down : told_after puts (range_event (record all_query {
  order = Descend;
  target = ByVersion;
  keys_only = true;
}) ∷ [])
    ≡ found 5 (kv_of b [] 3 5 2 ∷ kv_of a [] 2 2 1 ∷ kv_of c [] 4 4 1 ∷ []) 3 false ∷ []
unfolding model_on_literals
by_version_down = refl

pub empty_interval : told_after puts (range_event (record all_query { range = record { key = b; end = a } }) ∷ [])
    ≡ found 5 [] 0 false ∷ []
unfolding model_on_literals
empty_interval = refl

-- the count is taken before the filters, and the limit after them
pub modified_from_four : told_after puts
    (range_event (record all_query { min_mod = pos 4 }) ∷ range_event (record all_query {
      min_mod = pos 4;
      limit = pos 1;
    }) ∷ range_event (record all_query { count_only = true }) ∷ [])
    ≡ found 5 (kv_of b two 3 5 2 ∷ kv_of c one 4 4 1 ∷ []) 3 false ∷ found 5 (kv_of b two 3 5 2 ∷ []) 3 true
    ∷ found 5 [] 3 false ∷ []
unfolding model_on_literals
modified_from_four = refl

pub limit_not_reached : told_by opening (put_event (codes "foo") []
    ∷ range_event (record (plain_range (codes "foo") 0) { limit = pos 10 }) ∷ [])
    ≡ put_reply 2 ∷ found 2 (kv_of (codes "foo") [] 2 2 1 ∷ []) 1 false ∷ []
unfolding model_on_literals
limit_not_reached = refl

-- ---- old revisions, and deletes

pub old_revisions : told_after put_delete_put (range_event (plain_range a 2) ∷ range_event (plain_range a 3)
    ∷ range_event (plain_range a 4) ∷ range_event (plain_range a 5) ∷ [])
    ≡ found 4 (kv_of a one 2 2 1 ∷ []) 1 false ∷ found 4 [] 0 false ∷ found 4 (kv_of a two 4 4 1 ∷ []) 1 false
    ∷ refused (Future 4) ∷ []
unfolding model_on_literals
old_revisions = refl

-- a second delete finds nothing, and the revision stays
pub deleted_once : told_by opening (put_event a one ∷ delete_event a ∷ delete_event a ∷ []) ≡ put_reply 2
    ∷ told 3 (Reply.delete 1 []) ∷ told 3 (Reply.delete 0 []) ∷ []
unfolding model_on_literals
deleted_once = refl

-- a delete of an interval is one revision; the state before it can still be read; a put that keeps the value
pub delete_with_values : told_after puts
    (Event.command (Call.delete (record { range = record { key = a; end = c }; prev_kv = true }))
    ∷ range_event (record all_query { count_only = true; revision = pos 5 })
    ∷ Event.command (Call.put (record (put_of c []) { prev_kv = true; ignore_value = true })) ∷ range_event all_query
    ∷ [])
    ≡ told 6 (Reply.delete 2 (kv_of a one 2 2 1 ∷ kv_of b two 3 5 2 ∷ [])) ∷ found 6 [] 3 false
    ∷ told 7 (Reply.put (Some (kv_of c one 4 4 1))) ∷ found 7 (kv_of c one 4 7 2 ∷ []) 1 false ∷ []
unfolding model_on_literals
delete_with_values = refl

pub value_of_no_key : told_by opening (Event.command (Call.put (record (put_of a []) { ignore_value = true })) ∷ [])
    ≡ refused KeyMissing ∷ []
unfolding model_on_literals
value_of_no_key = refl

-- ---- reads below a compaction are refused, and reads at it are not

abbrev pub put_delete_compact : List Event
put_delete_compact = put_event a one ∷ delete_event a ∷ put_event b one ∷ compact_event (pos 4) ∷ []

pub read_below : told_after put_delete_compact (range_event (plain_range a 4) ∷ range_event (plain_range a 3) ∷ [])
    ≡ found 4 [] 0 false ∷ refused (Compacted 4) ∷ []
unfolding model_on_literals
read_below = refl

pub compact_twice : told_after put_delete_compact (compact_event (pos 4) ∷ compact_event (pos 5) ∷ compact_event (pos 0)
    ∷ []) ≡ refused (Compacted 4) ∷ refused (Future 4) ∷ refused (Compacted 4) ∷ []
unfolding model_on_literals
compact_twice = refl

-- ---- the last revision

-- a store whose last change has this revision
abbrev pub store_at : ℕ → World
store_at r = record opening { mutations = (record { rev = rev_at r; key = a; action = Action.put one (pos 0) }) ∷ [] }

pub revisions_spent : told_by (store_at (2 ^ 63 - 2)) (put_event b one ∷ put_event b one ∷ delete_event c ∷ [])
    ≡ put_reply (2 ^ 63 - 1) ∷ refused RevisionsSpent ∷ told (2 ^ 63 - 1) (Reply.delete 0 []) ∷ []
unfolding model_on_literals
revisions_spent = refl

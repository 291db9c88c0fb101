-- What is asked of a compacted store, and the versions that suffice to answer it.
use Rattle.std.specs.Prelude.{◌≡◌, ℕ, ◌≤◌, pos, List, [], length, Bool, Result}
use Rattle.kv_model.specs.declared.version.Version.{Version}
use Rattle.kv_model.specs.declared.call.RangeQuery.{RangeQuery}
use Rattle.kv_model.specs.declared.call.Watched.{Watched}
use Rattle.kv_model.specs.declared.refusal.Refusal.{Refusal}
use Rattle.kv_model.specs.Lists.{IsPart}
use Rattle.kv_model.specs.History.{Mutation, now, dress, end_of}
use Rattle.kv_model.specs.Ranges.{RangeReply, range_answer}
use Rattle.kv_model.specs.Watches.{WatchEvent, events_of_by, before_is_kept}

-- a Range at the revision that it names, or a watch of one revision
pub data Question : Type 0 where
  range : RangeQuery → Question
  watch : Watched → ℕ → Question

pub data Answered : Type 0 where
  range : Result RangeReply Refusal → Answered
  watch : List WatchEvent → Answered

-- the revision is not compacted, and not in the future
pub record IsKept (c now r : ℕ) : Type 0 where
  pub first : 1 ≤ r
  pub kept : c ≤ r
  pub past : r ≤ now

-- the Range has a key and names a revision that is kept
pub record IsRangeAt (c now : ℕ) (q : RangeQuery) : Type 0 where
  pub revision : ℕ
  pub is : q.revision ≡ pos revision
  pub kept : IsKept c now revision
  pub has_key : q.range.key ≡ [] → ⊥

abbrev pub IsQuestion : ℕ → ℕ → Question → Type 0
IsQuestion c now (Question.range q) = IsRangeAt c now q
IsQuestion c now (Question.watch w r) = IsKept c now r

-- what a list of versions answers, by any test of previous values
abbrev pub answered_by : (ℕ → ℕ → Bool) → List Version → ℕ → ℕ → Question → Answered
answered_by has_before vs c now (Question.range q) = Answered.range (range_answer vs c now (end_of now) q)
answered_by has_before vs c now (Question.watch w r) = Answered.watch (events_of_by has_before vs c r w)

-- and by this store's
abbrev pub answered : List Version → ℕ → ℕ → Question → Answered
answered = answered_by before_is_kept

-- ---- good and least parts of any list, with its compaction and revision, by any test of previous values

-- some of the versions, that answer every question between the two as all of them do
pub record IsGoodBy (has_before : ℕ → ℕ → Bool) (whole : List Version) (c now : ℕ) (vs : List Version) : Type 0 where
  pub part : IsPart vs whole
  pub answers : (q : Question) → IsQuestion c now q → answered_by has_before vs c now q
      ≡ answered_by has_before whole c now q

-- and no fewer do
pub record IsLeastBy (has_before : ℕ → ℕ → Bool) (whole : List Version) (c now : ℕ) (vs : List Version) : Type 0 where
  pub good : IsGoodBy has_before whole c now vs
  pub least : (us : List Version) → IsGoodBy has_before whole c now us → length vs ≤ length us

-- ---- by this store's test

abbrev pub IsGoodOf : List Version → ℕ → ℕ → List Version → Type 0
IsGoodOf = IsGoodBy before_is_kept

abbrev pub IsLeastOf : List Version → ℕ → ℕ → List Version → Type 0
IsLeastOf = IsLeastBy before_is_kept

-- ---- of the versions of a history

abbrev pub IsGood : List Version → List Mutation → ℕ → Type 0
IsGood vs ms c = IsGoodOf (dress ms) c (now ms) vs

abbrev pub IsLeast : List Version → List Mutation → ℕ → Type 0
IsLeast vs ms c = IsLeastOf (dress ms) c (now ms) vs

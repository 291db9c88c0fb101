-- Certificates: a dump of the versions that are kept, why each is needed, and what a check of the two finds.
use Rattle.std.specs.Prelude.{◌≡◌, ◌≢◌, ℕ, max, List, [], ◌∷◌, find, filter_map, count_by, Bool, not, ◌&&◌, ◌==◌}
use Rattle.std.specs.Prelude.{nat_lt}
use Rattle.std.specs.Prelude.{nat_le, if◌then◌else◌, Option, None, Some, option_map, ⊤}
use Rattle.std.specs.Option.{option_or}
use Rattle.kv_model.specs.declared.version.Rev.{Rev}
use Rattle.kv_model.specs.declared.version.Version.{Version}
use Rattle.kv_model.specs.declared.version.Body.{Body}
use Rattle.kv_model.specs.declared.version.Body.TheVariants.{Put, Gone}
use Rattle.kv_model.specs.Lists.{is_empty, IsPart, IsIn}
use Rattle.kv_model.specs.Keys.{same_key}
use Rattle.kv_model.specs.History.{rev_lt, is_at, is_tombstone, is_superseded, is_next_at}
use Rattle.kv_model.specs.Ranges.{plain_range}
use Rattle.kv_model.specs.Watches.{plain_watch, previous_watch, before_is_kept}
use Rattle.kv_model.specs.Questions.{Question, IsQuestion, answered_by}

-- the versions that a store keeps; floor is the revision of its last compaction
pub record Dump : Type 0 where
  pub floor : ℕ
  pub revision : ℕ
  pub versions : List Version

-- a Range of the version's key at a revision, a watch of it, or a watch of it with previous values
pub data Need : Type 0 where
  range : ℕ → Need
  watch : ℕ → Need
  prev : ℕ → Need

-- the version at this revision has this need
pub record Claim : Type 0 where
  pub rev : Rev
  pub need : Need

-- ---- why a version is kept: a question that no list without it answers

-- every part without the version answers the question otherwise, by any test of previous values
abbrev pub IsNeededBy : (ℕ → ℕ → Bool) → ℕ → ℕ → List Version → Version → Question → Type 0
IsNeededBy has_before c now vs v q =
    (us : List Version) → IsPart us vs → (IsIn v us → ⊥)
    → answered_by has_before us c now q ≢ answered_by has_before vs c now q

abbrev pub question_of : Version → Need → Question
question_of v (Need.range r) = Question.range (plain_range v.key r)
question_of v (Need.watch r) = Question.watch (plain_watch v.key) r
question_of v (Need.prev r) = Question.watch (previous_watch v.key) r

-- the version has this need among the versions, by any test of previous values
pub record HasNeedBy (has_before : ℕ → ℕ → Bool) (c now : ℕ) (vs : List Version) (v : Version) (n : Need) : Type 0 where
  pub asked : IsQuestion c now (question_of v n)
  pub needed : IsNeededBy has_before c now vs v (question_of v n)

-- and by this store's
abbrev pub HasNeed : ℕ → ℕ → List Version → Version → Need → Type 0
HasNeed = HasNeedBy before_is_kept

-- ---- the certificate of a dump

-- the need of a put: a Range at r where nothing replaces it there, else a watch at c of which it is the previous value
abbrev pub put_need : (is_replaced is_before : Bool) → ℕ → ℕ → Option Need
put_need is_replaced is_before r c = if is_replaced
    then (if is_before then Some (Need.prev c) else None)
    else Some (Need.range r)

-- The last put of its key answers a Range, and any other put that is above the floor answers one at its own revision. A
-- put below the floor whose next version is of the floor is the previous value of that. A tombstone from the floor on answers a watch.
-- What is left has no need.
abbrev pub need_of : Dump → Version → Body → Option Need
need_of d v (Put create version lease value) = put_need (is_superseded d.versions (max v.rev.main d.floor) v)
    (nat_lt v.rev.main d.floor && is_next_at d.versions d.floor v) (max v.rev.main d.floor) d.floor
need_of d v Gone = if nat_le d.floor v.rev.main then Some (Need.watch v.rev.main) else None

abbrev pub claim_of : Dump → Version → Option Claim
claim_of d v = option_map (λ n. record { rev = v.rev; need = n }) (need_of d v v.body)

-- a claim for each version that has a need, in order
unfoldable pub claims_of : Dump → List Claim
claims_of d = filter_map (claim_of d) d.versions

-- ---- its check

-- a question may be asked of the dump at this revision
abbrev pub is_asked : Dump → Version → ℕ → Bool
is_asked d v r = not (is_empty v.key) && nat_le 1 r && nat_le d.floor r && nat_le r d.revision

-- the version answers the question: a Range shows it, a watch of its revision tells of it, or it is the put before the
-- version that a watch tells of
abbrev pub is_met : Dump → Version → Need → Bool
is_met d v (Need.range r) = is_asked d v r && not (is_tombstone v.body) && nat_le v.rev.main r
    && not (is_superseded d.versions r v)
is_met d v (Need.watch r) = is_asked d v r && v.rev.main == r
is_met d v (Need.prev r) = is_asked d v r && not (is_tombstone v.body) && is_next_at d.versions r v

pub data NeedFault : Type 0 where
  not_rising : Rev → NeedFault
  double_key : Rev → NeedFault
  no_need : Rev → NeedFault
  need_unmet : Rev → NeedFault
  extra : NeedFault

-- the first version that does not stand above the one before it
abbrev pub fall_after : Rev → List Version → Option Rev
fall_after p [] = None
fall_after p (v ∷ vs) = if rev_lt p v.rev then fall_after v.rev vs else Some v.rev

abbrev pub first_fall : List Version → Option Rev
first_fall [] = None
first_fall (v ∷ vs) = fall_after v.rev vs

abbrev pub is_double : List Version → Version → Bool
is_double vs v = nat_lt 1 (count_by (λ u. same_key u.key v.key && u.rev.main == v.rev.main) vs)

-- the first version whose key has another at the same main revision
abbrev pub first_double : List Version → Option Rev
first_double vs = option_map (λ v. v.rev) (find (is_double vs) vs)

-- each version has the next claim, and its need is met
abbrev pub claims_fault : Dump → List Version → List Claim → Option NeedFault
claims_fault d [] [] = None
claims_fault d [] (claim ∷ claims) = Some NeedFault.extra
claims_fault d (v ∷ vs) [] = Some (NeedFault.no_need v.rev)
claims_fault d (v ∷ vs) (claim ∷ claims) = if is_at claim.rev v
    then (if is_met d v claim.need then claims_fault d vs claims else Some (NeedFault.need_unmet v.rev))
    else Some (NeedFault.no_need v.rev)

-- the first fault of a certificate, none where it passes: then each version is needed
unfoldable pub first_fault : Dump → List Claim → Option NeedFault
first_fault d claims = option_or (option_map NeedFault.not_rising (first_fall d.versions))
    (option_or (option_map NeedFault.double_key (first_double d.versions)) (claims_fault d d.versions claims))

-- ---- what it says

-- a claim for each version, in their order, and each a need among all versions, by any test of previous values
abbrev pub AreNeedsBy : (ℕ → ℕ → Bool) → ℕ → ℕ → List Version → List Version → List Claim → Type 0
AreNeedsBy has_before c now whole [] [] = ⊤
AreNeedsBy has_before c now whole [] (claim ∷ claims) = ⊥
AreNeedsBy has_before c now whole (v ∷ vs) [] = ⊥
AreNeedsBy has_before c now whole (v ∷ vs) (claim ∷ claims) =
    (claim.rev ≡ v.rev) × HasNeedBy has_before c now whole v claim.need × AreNeedsBy has_before c now whole vs claims

-- and by this store's
abbrev pub AreNeedsOf : ℕ → ℕ → List Version → List Version → List Claim → Type 0
AreNeedsOf = AreNeedsBy before_is_kept

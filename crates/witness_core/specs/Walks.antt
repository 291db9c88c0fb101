-- A check of a certificate in one walk over the versions, by the main revision of each one's next version.
use Rattle.std.specs.Prelude.{ℕ, List, [], ◌∷◌, Bool, not, ◌&&◌, ◌==◌, nat_le, if◌then◌else◌}
use Rattle.std.specs.Prelude.{Option, None, Some, false}
use Rattle.std.specs.Option.{option_or}
use Rattle.kv_model.specs.declared.version.Rev.{Rev}
use Rattle.kv_model.specs.declared.version.Version.{Version}
use Rattle.kv_model.specs.Keys.{same_key}
use Rattle.kv_model.specs.Certificates.{Dump, Claim, Need}
use Rattle.kv_model.specs.History.{is_at, is_tombstone}
use Rattle.kv_model.specs.Certificates.{NeedFault, is_asked}

-- the main revision of the first version of a key
abbrev pub next_main : List ℕ → List Version → Option ℕ
next_main k [] = None
next_main k (v ∷ vs) = if same_key v.key k then Some v.rev.main else next_main k vs

-- for each version that of the next one of its key
abbrev pub next_mains : List Version → List (Option ℕ)
next_mains [] = []
next_mains (v ∷ vs) = next_main v.key vs ∷ next_mains vs

-- the next version is of this revision
abbrev pub is_next_in : ℕ → Option ℕ → Bool
is_next_in main None = false
is_next_in main (Some next) = next == main

-- the next version is at or below the revision
abbrev pub is_next_by : ℕ → Option ℕ → Bool
is_next_by r None = false
is_next_by r (Some next) = nat_le next r

-- the first version whose next one is of its own main revision
abbrev pub first_twin : List Version → List (Option ℕ) → Option Rev
first_twin [] ns = None
first_twin (v ∷ vs) [] = None
first_twin (v ∷ vs) (n ∷ ns) = if is_next_in v.rev.main n then Some v.rev else first_twin vs ns

-- the need is met by a version with this next one
abbrev pub is_met_by : Dump → Version → Option ℕ → Need → Bool
is_met_by d v n (Need.range r) = is_asked d v r && not (is_tombstone v.body) && nat_le v.rev.main r
    && not (is_next_by r n)
is_met_by d v n (Need.watch r) = is_asked d v r && v.rev.main == r
is_met_by d v n (Need.prev r) = is_asked d v r && not (is_tombstone v.body) && is_next_in r n

-- what is wrong with the claim that stands where the version's has to
abbrev pub claim_fault : Dump → Version → Option ℕ → Option Claim → Option NeedFault
claim_fault d v n None = Some (NeedFault.no_need v.rev)
claim_fault d v n (Some claim) = if is_at claim.rev v
    then (if is_met_by d v n claim.need then None else Some (NeedFault.need_unmet v.rev))
    else Some (NeedFault.no_need v.rev)

abbrev pub left_over : List Claim → Option NeedFault
left_over [] = None
left_over (claim ∷ claims) = Some NeedFault.extra

-- the first fault of the claims
abbrev pub walked : Dump → List Version → List (Option ℕ) → List Claim → Option NeedFault
walked d [] ns claims = left_over claims
walked d (v ∷ vs) [] claims = left_over claims
walked d (v ∷ vs) (n ∷ ns) [] = claim_fault d v n None
walked d (v ∷ vs) (n ∷ ns) (claim ∷ claims) = option_or (claim_fault d v n (Some claim)) (walked d vs ns claims)

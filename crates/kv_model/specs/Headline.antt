-- What a whole run promises. What is told is in Wire; here is what is kept: each change adds, and trimming takes out
-- what no least list needs.
use Rattle.std.specs.Prelude.{◌≡◌, ℕ, List, [], ◌∷◌, ◌++◌, length, filter, Bool, nat_lt, nat_le, if◌then◌else◌}
use Rattle.std.specs.Prelude.{MatchBool, MatchOption, Option, None, Some, ⊤}
use Rattle.kv_model.specs.declared.version.Version.{Version}
use Rattle.kv_model.specs.declared.ids.Ids.{Ids}
use Rattle.kv_model.specs.Lists.{IsIn}
use Rattle.kv_model.specs.History.{without_rev}
use Rattle.kv_model.specs.World.{World, opening, revision, versions, added}
use Rattle.kv_model.specs.Questions.{IsGood, IsLeast}
use Rattle.kv_model.specs.Certificates.{Dump, Claim, claims_of, first_fault, AreNeedsOf}
use Rattle.kv_model.specs.Follows.{Outcome, after_outcome}
use Rattle.kv_model.specs.Wire.{WireEvent, WireTold, WireOutcome, wire_step, is_physical, Follows}

-- the versions that are kept, and those of them that trimming has still to visit, the next one first
pub record Keeping : Type 0 where
  pub kept : List Version
  pub ahead : List Version

-- ---- changes

-- what a change adds is kept; where it is an accepted Compact, all that is kept at or below it is to be visited
abbrev pub kept_after : World → World → Keeping → Keeping
kept_after w u k = record {
  kept = k.kept ++ added w u;
  ahead = if nat_lt w.compacted u.compacted then filter (λ v. nat_le v.rev.main u.compacted) k.kept else k.ahead;
}

-- a least list is kept, and nothing is left to visit
pub record IsTrimmed (w : World) (k : Keeping) : Type 0 where
  pub least : IsLeast k.kept w.mutations w.compacted
  pub visited : k.ahead ≡ []

-- a Compact that waits for trimming leaves a least list
abbrev pub Changes : Bool → World → World → Keeping → Keeping → Type 0
Changes physical w u k l = MatchBool physical (IsTrimmed u l) (l ≡ kept_after w u k)

-- ---- trimming steps

-- some least list has the version
abbrev pub IsInLeast : World → Version → Type 0
IsInLeast w v = (us : List Version) × IsLeast us w.mutations w.compacted × IsIn v us

abbrev pub dump_of : World → List Version → Dump
dump_of w vs = record { floor = w.compacted; revision = revision w; versions = vs }

-- a claim for each version, in their order, and each a need in the whole history
abbrev pub AreNeeds : World → List Version → List Claim → Type 0
AreNeeds w = AreNeedsOf w.compacted (revision w) (versions w)

-- the certificate passes its check, and what it claims is so
pub record IsCertificate (w : World) (vs : List Version) (claims : List Claim) : Type 0 where
  pub passes : first_fault (dump_of w vs) claims ≡ None
  pub needs : AreNeeds w vs claims

-- a step that is done tells how many versions are kept, no fewer would do, and its certificate is one
pub record IsDone (w : World) (k : Keeping) (n : ℕ) (certificate : Option (List Claim)) : Type 0 where
  pub number : n ≡ length k.kept
  pub least : IsLeast k.kept w.mutations w.compacted
  pub certified : MatchOption certificate ⊤ (IsCertificate w k.kept)

-- A trimming step names the next version to visit: removed where no least list has it, and else kept. Without a next
-- one it is done.
abbrev pub Trims : World → Keeping → List Version → WireTold → Keeping → Type 0
Trims w k (v ∷ vs) (WireTold.removed p) l = (p ≡ v.rev) × (IsInLeast w v → ⊥)
    × (l ≡ record { kept = without_rev (Some p) k.kept; ahead = vs })
Trims w k (v ∷ vs) (WireTold.kept p) l = (p ≡ v.rev) × IsInLeast w v × (l ≡ record { kept = k.kept; ahead = vs })
Trims w k [] (WireTold.done n certificate) l = IsDone w k n certificate × (l ≡ k)
Trims w k _ _ l = ⊥

-- ---- events

-- what is told shows what is kept and its certificate
abbrev pub Certifies : World → Keeping → WireTold → Type 0
Certifies w k t = t ≡ WireTold.certified (dump_of w k.kept) (claims_of (dump_of w k.kept))

-- from what is kept before an event that was answered to what is kept after it
abbrev pub KeepsSaid : Ids → World → Keeping → WireEvent → WireTold → Keeping → Type 0
KeepsSaid ids w k WireEvent.trim t l = Trims w k k.ahead t l
KeepsSaid ids w k WireEvent.certify t l = Certifies w k t × (l ≡ k)
KeepsSaid ids w k e t l = Changes (is_physical w e) w (wire_step ids w e).1 k l

-- and for any outcome: an event that found no memory changes nothing
abbrev pub Keeps : Ids → World → Keeping → WireEvent → WireOutcome → Keeping → Type 0
Keeps ids w k e Outcome.memory l = l ≡ k
Keeps ids w k e (Outcome.lost loss) l = Changes (is_physical w e) w (wire_step ids w e).1 k l
Keeps ids w k e (Outcome.said t) l = KeepsSaid ids w k e t l

-- ---- runs

-- before the first event nothing is kept
abbrev pub nothing_kept : Keeping
nothing_kept = record { kept = []; ahead = [] }

-- from a world on: before and after every event what is kept answers as the whole history does, and each event keeps
-- what it has to
abbrev pub KeepsWell : Ids → World → Keeping → List WireEvent → List WireOutcome → Type 0
KeepsWell ids w k [] [] = IsGood k.kept w.mutations w.compacted
KeepsWell ids w k [] (o ∷ os) = ⊥
KeepsWell ids w k (e ∷ es) [] = ⊥
KeepsWell ids w k (e ∷ es) (o ∷ os) = IsGood k.kept w.mutations w.compacted
    × ((l : Keeping) × Keeps ids w k e o l × KeepsWell ids (after_outcome (wire_step ids) w e o) l es os)

-- Each answer's bytes are those of the whole history. Trimming takes out what no answer needs: where it is done, the
-- fewest versions are kept.
pub record IsRun (ids : Ids) (es : List WireEvent) (os : List WireOutcome) : Type 0 where
  pub follows : Follows ids es os
  pub keeps : KeepsWell ids opening nothing_kept es os

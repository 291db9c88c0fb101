-- How a fault stands in a dump and its claims.
use Rattle.std.specs.Prelude.{◌≡◌, ◌<◌, List, [], ◌∷◌, ◌++◌, length, false, ⊤}
use Rattle.kv_model.specs.declared.version.Rev.{Rev}
use Rattle.kv_model.specs.declared.version.Version.{Version}
use Rattle.kv_model.specs.Lists.{IsIn}
use Rattle.kv_model.specs.History.{rev_lt, is_at}
use Rattle.kv_model.specs.Certificates.{Dump, Claim}
use Rattle.kv_model.specs.Certificates as model
use Rattle.witness_core.specs.declared.fault.NeedFault.{NeedFault}
use Rattle.witness_core.specs.declared.fault.NeedFault.TheVariants.{NotRising, DoubleKey, NoNeed, NeedUnmet, Extra}
use Rattle.witness_core.specs.declared.fault.NeedFault.TheVariants.{Memory}

-- the version at the revision is not above the one before it
pub record Falls (vs : List Version) (p : Rev) : Type 0 where
  pub before : List Version
  pub earlier : Version
  pub version : Version
  pub after : List Version
  pub is : vs ≡ before ++ earlier ∷ version ∷ after
  pub at : version.rev ≡ p
  pub falls : rev_lt earlier.rev version.rev ≡ false

-- behind the version at the revision stands another of its key and main revision
pub record Doubles (vs : List Version) (p : Rev) : Type 0 where
  pub before : List Version
  pub version : Version
  pub after : List Version
  pub is : vs ≡ before ++ version ∷ after
  pub at : version.rev ≡ p
  pub twin : Version
  pub behind : IsIn twin after
  pub key : twin.key ≡ version.key
  pub main : twin.rev.main ≡ version.rev.main

-- no claim stands here, or one of another version
abbrev pub IsOff : Version → List Claim → Type 0
IsOff v [] = ⊤
IsOff v (claim ∷ claims) = is_at claim.rev v ≡ false

-- the version at the revision has no claim at its place
pub record Unclaimed (vs : List Version) (claims : List Claim) (p : Rev) : Type 0 where
  pub before : List Version
  pub version : Version
  pub after : List Version
  pub is : vs ≡ before ++ version ∷ after
  pub at : version.rev ≡ p
  pub front : List Claim
  pub rest : List Claim
  pub claimed : claims ≡ front ++ rest
  pub level : length front ≡ length before
  pub off : IsOff version rest

-- the version at the revision does not answer the claim at its place
pub record Unmet (d : Dump) (claims : List Claim) (p : Rev) : Type 0 where
  pub before : List Version
  pub version : Version
  pub after : List Version
  pub is : d.versions ≡ before ++ version ∷ after
  pub at : version.rev ≡ p
  pub front : List Claim
  pub claim : Claim
  pub rest : List Claim
  pub claimed : claims ≡ front ++ claim ∷ rest
  pub level : length front ≡ length before
  pub unmet : model.is_met d version claim.need ≡ false

abbrev pub Stands : Dump → List Claim → model.NeedFault → Type 0
Stands d claims (model.NeedFault.not_rising p) = Falls d.versions p
Stands d claims (model.NeedFault.double_key p) = Doubles d.versions p
Stands d claims (model.NeedFault.no_need p) = Unclaimed d.versions claims p
Stands d claims (model.NeedFault.need_unmet p) = Unmet d claims p
Stands d claims model.NeedFault.extra = length d.versions < length claims

-- the program's fault stands there
abbrev pub IsThere : Dump → List Claim → NeedFault → Type 0
IsThere d claims (NotRising p) = Falls d.versions p
IsThere d claims (DoubleKey p) = Doubles d.versions p
IsThere d claims (NoNeed p) = Unclaimed d.versions claims p
IsThere d claims (NeedUnmet p) = Unmet d claims p
IsThere d claims Extra = length d.versions < length claims
IsThere d claims Memory = ⊤

-- Laws of trimming: its rule takes out what no least list needs, and ends at the one least.
use Rattle.std.specs.Prelude.{◌≡◌, ℕ, ◌≤◌, ◌<◌, ◌^◌, List, [], ◌∷◌, ◌++◌, filter, Bool, true, not, ◌&&◌, ◌||◌, nat_lt}
use Rattle.std.specs.Prelude.{nat_le, Option, None, MatchOption, ⊤}
use Rattle.std.specs.List.{AllByRecursion}
use Rattle.kv_model.specs.declared.version.Rev.{Rev}
use Rattle.kv_model.specs.declared.version.Version.{Version}
use Rattle.kv_model.specs.History.{Mutation, now, dress, rev_lt, is_tombstone, is_superseded, is_next_at}
use Rattle.store_laws.specs.Sound.{IsHistory, IsSound}
use Rattle.kv_model.specs.World.{World}
use Rattle.kv_model.specs.Told.{Trimmed}
use Rattle.kv_model.specs.Lists.{IsPart, IsIn}
use Rattle.kv_model.specs.Questions.{IsGood, IsLeast, IsLeastBy}
use Rattle.store_laws.specs.Trimming.{TrimStep, trimmed, IsSettled, IsTrimmedTo, oldest_place, is_trimmed}
use Rattle.kv_model.specs.Certificates.{claims_of, first_fault, AreNeedsBy, Dump, Claim, Need}
use Rattle.kv_model.specs.Wire.{trim_told}
use Rattle.kv_model.specs.Headline.{Keeping, Trims, IsTrimmed, IsCertificate, dump_of}

-- ---- the least list

-- what answers, and has nothing left to take out, is a least list
abbrev pub SettledIsLeast : Type 0
SettledIsLeast = (ms : List Mutation) (c : ℕ) (vs : List Version) → IsHistory ms → c ≤ now ms
    → IsGood vs ms c → IsSettled vs c → IsLeast vs ms c

-- there is one least list
abbrev pub LeastIsOne : Type 0
LeastIsOne = (ms : List Mutation) (c : ℕ) (us vs : List Version) → IsHistory ms
    → c ≤ now ms → IsLeast us ms c → IsLeast vs ms c → us ≡ vs

-- where nothing is left to take out, the certificate passes its check and each of its needs is one
abbrev pub SettledIsCertified : Type 0
SettledIsCertified = (w : World) (vs : List Version) → IsSound w → IsGood vs w.mutations w.compacted
    → IsSettled vs w.compacted → IsCertificate w vs (claims_of (dump_of w vs))

-- each listed version has its claimed need in the list, and no shorter part of the list answers as it does
pub record IsLeastOfItself (has_before : ℕ → ℕ → Bool) (d : Dump) (claims : List Claim) : Type 0 where
  pub needs : AreNeedsBy has_before d.floor d.revision d.versions d.versions claims
  pub least : IsLeastBy has_before d.versions d.floor d.revision d.versions

-- where the need asks for a previous value, the test of previous values has it told
abbrev pub Tells : (ℕ → ℕ → Bool) → ℕ → Need → Type 0
Tells has_before c (Need.range r) = ⊤
Tells has_before c (Need.watch r) = ⊤
Tells has_before c (Need.prev r) = c ≤ r → has_before c r ≡ true

-- a certificate that passes its check says so by any test of previous values that its needs go by, where numbers within a
-- revision fit 64 bits
abbrev pub PassingIsLeast : Type 0
PassingIsLeast = (has_before : ℕ → ℕ → Bool) (d : Dump) (claims : List Claim)
    → AllByRecursion (λ v. v.rev.sub < 2 ^ 64) d.versions → first_fault d claims ≡ None
    → AllByRecursion (λ claim. Tells has_before d.floor claim.need) claims → IsLeastOfItself has_before d claims

-- ---- the rule

-- a version at or below the compaction c is of use where it is the last of its key at or below c and no tombstone below c,
-- or where it is a put, the last of its key below c, and the key has a version at c
abbrev pub is_of_use : List Version → ℕ → Version → Bool
is_of_use vs c v = (not (is_superseded vs c v) && not (is_tombstone v.body && nat_lt v.rev.main c))
    || (not (is_tombstone v.body) && nat_lt v.rev.main c && is_next_at vs c v)

-- and all others go
abbrev pub TrimmingIsByUse : Type 0
TrimmingIsByUse = (ms : List Mutation) (c : ℕ) (vs : List Version) (v : Version) → IsHistory ms → IsPart vs (dress ms)
    → IsIn v vs → v.rev.main ≤ c → is_trimmed vs c v ≡ not (is_of_use vs c v)

-- ---- a step by the rule

-- what is kept, where trimming has come to a place: those at or below c from there on are to be visited
abbrev pub keeping : List Version → Rev → ℕ → Keeping
keeping vs p c = record { kept = vs; ahead = filter (λ v. not (rev_lt v.rev p) && nat_le v.rev.main c) vs }

-- a step that is told so visits the next version, and without a next one it is done: what was to be visited before it,
-- and what is afterwards
abbrev pub IsVisit : Trimmed → List Version → List Version → Type 0
IsVisit (Trimmed.removed q) before after = (v : Version) × (q ≡ v.rev) × (before ≡ v ∷ after)
IsVisit (Trimmed.kept q) before after = (v : Version) × (q ≡ v.rev) × (before ≡ v ∷ after)
IsVisit (Trimmed.done n) before after = (before ≡ []) × (after ≡ [])

-- the certificate is that of what is kept, or there is none
abbrev pub IsOwn : World → List Version → Option (List Claim) → Type 0
IsOwn w vs certificate = MatchOption certificate ⊤ (λ claims. claims ≡ claims_of (dump_of w vs))

-- a step keeps what answers, leaves nothing behind it, and is one that a run may make
pub record StepsWell (w : World) (vs : List Version) (p : Rev) (certificate : Option (List Claim)) (t : TrimStep) : Type
    0 where
  pub good : IsGood t.versions w.mutations w.compacted
  pub up_to : IsTrimmedTo t.versions t.place w.compacted
  pub trims : Trims w (keeping vs p w.compacted) (keeping vs p w.compacted).ahead (trim_told t.told certificate)
      (keeping t.versions t.place w.compacted)

-- so does each step by the rule
abbrev pub TrimmedStepsWell : Type 0
TrimmedStepsWell = (w : World) (vs : List Version) (p : Rev) (certificate : Option (List Claim)) → IsSound w
    → w.compacted < 2 ^ 63
    → IsGood vs w.mutations w.compacted → IsTrimmedTo vs p w.compacted
    → IsOwn w vs certificate → StepsWell w vs p certificate (trimmed vs p w.compacted)

-- where a step by the rule says that it is done, a least list is kept and nothing is left to visit
abbrev pub DoneIsTrimmed : Type 0
DoneIsTrimmed = (w : World) (vs : List Version) (p : Rev) (n : ℕ) → IsSound w → w.compacted < 2 ^ 63
    → IsGood vs w.mutations w.compacted → IsTrimmedTo vs p w.compacted
    → (trimmed vs p w.compacted).told ≡ Trimmed.done n → IsTrimmed w (keeping vs p w.compacted)

-- ---- what comes between steps

-- a Compact starts over: nothing stands before the first place, and all that is kept at or below c is to be visited
pub record StartsOver (vs : List Version) (c : ℕ) : Type 0 where
  pub up_to : IsTrimmedTo vs oldest_place c
  pub ahead : (keeping vs oldest_place c).ahead ≡ filter (λ v. nat_le v.rev.main c) vs

abbrev pub TrimmingStartsOver : Type 0
TrimmingStartsOver = (vs : List Version) (c : ℕ) → StartsOver vs c

-- later versions, which stand above the compaction, change nothing of what is behind the place and of what is to be
-- visited
pub record GoesOn (vs us : List Version) (p : Rev) (c : ℕ) : Type 0 where
  pub up_to : IsTrimmedTo (vs ++ us) p c
  pub ahead : (keeping (vs ++ us) p c).ahead ≡ (keeping vs p c).ahead

abbrev pub TrimmingGoesOn : Type 0
TrimmingGoesOn = (vs us : List Version) (p : Rev) (c : ℕ) → AllByRecursion (λ u. c < u.rev.main) us → IsTrimmedTo vs p c
    → GoesOn vs us p c

-- what answers from a compaction on answers from a later one on
abbrev pub GoodStaysGood : Type 0
GoodStaysGood = (ms : List Mutation) (c d : ℕ) (vs : List Version) → IsHistory ms → c ≤ d → d ≤ now ms → IsGood vs ms c
    → IsGood vs ms d

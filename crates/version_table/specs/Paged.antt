-- Versions in pages: each page has 256 places, filled one after another.
use Rattle.std.specs.Prelude.{◌≡◌, ℕ, suc, zero, ◌<◌, ◌≤◌, ◌+◌, ◌-◌, List, [], ◌∷◌, ◌++◌, Bool, true, false}
use Rattle.std.specs.Prelude.{Option, None, Some, IfSome, if◌then◌else◌, length, nat_lt}
use Rattle.std.specs.List.{AllByRecursion, flat_map, slice_get, remove}
use Rattle.kv_model.specs.Lists.{is_empty, last_that}
use Rattle.kv_model.specs.History.{without_rev}
use Rattle.kv_model.specs.declared.version.Rev.{Rev}
use Rattle.kv_model.specs.declared.version.Version.{Version}
use Rattle.kv_model.specs.History.{rev_lt}
use Rattle.store_laws.specs.Rising as rising
use Rattle.version_table.specs.Rising.{IsRising, newest}

-- how many places of a page were ever used, and the versions that stand in it
pub record Places : Type 0 where
  pub used : ℕ
  pub versions : List Version

abbrev pub versions_in : Places → List Version
versions_in p = p.versions

abbrev pub used_in : Places → ℕ
used_in p = p.used

-- the versions of all pages
abbrev pub flat : List Places → List Version
flat ps = flat_map versions_in ps

-- each page has a version
abbrev pub HaveVersions : List Places → Type 0
HaveVersions ps = AllByRecursion (λ (p : Places). 0 < length p.versions) ps

-- each page has no more versions than places that were ever used, and no more of these than 256
abbrev pub Fit : List Places → Type 0
Fit ps = AllByRecursion (λ (p : Places). (length p.versions ≤ p.used) × (p.used ≤ 256)) ps

-- a page some of whose places were never used has the memory of them all
abbrev pub HasRoom : ℕ → ℕ → Type 0
HasRoom used room = used < 256 → 256 ≤ room

-- a page of which no place was ever used
abbrev pub blank : Places
blank = record { used = 0; versions = [] }

abbrev pub IsSpare : Option Places → Type 0
IsSpare o = IfSome o (λ p. p ≡ blank)

-- the pages of a table, the spare one, and the number of their versions
pub record ArePages (ps : List Places) (o : Option Places) (n : ℕ) : Type 0 where
  pub rising : IsRising (flat ps)
  pub held : HaveVersions ps
  pub fit : Fit ps
  pub spare : IsSpare o
  pub counted : n ≡ length (flat ps)

-- the last version, if there is one, stands before a place
abbrev pub ends_before : Rev → Option Version → Bool
ends_before p None = true
ends_before p (Some v) = rev_lt v.rev p

-- the page stands wholly before a place
abbrev pub is_past : Rev → Places → Bool
is_past p q = ends_before p (newest q.versions)

-- the last page, if there is one, stands wholly before a place
abbrev pub past_or_none : Rev → Option Places → Bool
past_or_none p None = true
past_or_none p (Some q) = is_past p q

abbrev pub ends_past : Rev → List Places → Bool
ends_past p ps = past_or_none p (newest ps)

-- how many pages stand wholly before a place
abbrev pub pages_before : Rev → List Places → ℕ
pages_before p ps = rising.count_while (is_past p) ps

-- the place of a revision, if each main revision from the first one on has one version
abbrev pub place_of : Rev → Option Rev → ℕ
place_of p None = zero
place_of p (Some q) = p.main - q.main

-- ---- changes

abbrev pub room_in : Option Places → Bool
room_in None = false
room_in (Some p) = nat_lt p.used 256

-- the last page has a place that was never used
abbrev pub has_room : List Places → Bool
has_room ps = room_in (last_that (λ _. true) ps)

-- one page is changed
abbrev pub change_at : (Places → Places) → ℕ → List Places → List Places
change_at f i [] = []
change_at f zero (p ∷ ps) = f p ∷ ps
change_at f (suc i) (p ∷ ps) = p ∷ change_at f i ps

abbrev pub with_version : Version → Places → Places
with_version v p = record { used = p.used + 1; versions = p.versions ++ v ∷ [] }

abbrev pub without_version : Rev → Places → Places
without_version r p = record p { versions = without_rev (Some r) p.versions }

-- without the version at an index
abbrev pub without_at : ℕ → Places → Places
without_at i p = record p { versions = remove p.versions i }

-- a page whose first place has a version, and the others none
abbrev pub fresh : Version → Places
fresh v = record { used = 1; versions = v ∷ [] }

-- a version behind all others: on the last page where that has room, and else on a new one
abbrev pub pushed : Version → List Places → List Places
pushed v ps = if has_room ps then change_at (with_version v) (length ps - 1) ps else ps ++ fresh v ∷ []

abbrev pub is_void : Option Places → Bool
is_void None = false
is_void (Some p) = is_empty p.versions

-- a page without versions goes
abbrev pub freed : ℕ → List Places → List Places
freed i ps = if is_void (slice_get ps i) then remove ps i else ps

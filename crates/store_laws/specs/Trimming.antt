-- Trimming: one step looks at one version at or below the compaction, the oldest first (etcd: mvcc compaction).
use Rattle.std.specs.Prelude.{◌≡◌, ℕ, ◌+◌, ◌-◌, ◌^◌, List, length, find, Bool, false, not, ◌&&◌, ◌||◌}
use Rattle.std.specs.Prelude.{nat_lt, nat_le, if◌then◌else◌, Option, None, Some}
use Rattle.std.specs.List.{AllByRecursion}
use Rattle.kv_model.specs.declared.version.Rev.{Rev}
use Rattle.kv_model.specs.declared.version.Version.{Version}
use Rattle.kv_model.specs.History.{rev_lt, without_rev, is_tombstone, is_superseded}
use Rattle.kv_model.specs.Told.{Trimmed}

-- ---- where trimming has come to: the first place that it has not looked at

abbrev pub oldest_place : Rev
oldest_place = record { main = 0; sub = 0 }

-- the first place behind another; behind the greatest of 64-bit numbers there is none
abbrev pub place_after : Rev → Rev
place_after p = if nat_lt p.sub (2 ^ 64 - 1) then record p { sub = p.sub + 1 }
    else if nat_lt p.main (2 ^ 64 - 1) then record { main = p.main + 1; sub = 0 }
    else p

-- ---- what goes

-- of the versions at or below the compaction c these go: a later one of the key is below c, or it is a tombstone below c
abbrev pub is_trimmed : List Version → ℕ → Version → Bool
is_trimmed vs c v = is_superseded vs (c - 1) v || (is_tombstone v.body && nat_lt v.rev.main c)

-- nothing of these is left to take out
abbrev pub IsSettled : List Version → ℕ → Type 0
IsSettled vs c = AllByRecursion (λ v. (nat_le v.rev.main c && is_trimmed vs c v) ≡ false) vs

-- up to the place nothing of these is left to take out
abbrev pub IsTrimmedTo : List Version → Rev → ℕ → Type 0
IsTrimmedTo vs p c = AllByRecursion (λ v. (rev_lt v.rev p && (nat_le v.rev.main c && is_trimmed vs c v)) ≡ false) vs

-- ---- one step

-- what a step told, and the versions and the place that it left
pub record TrimStep : Type 0 where
  pub told : Trimmed
  pub versions : List Version
  pub place : Rev

-- the version is looked at: it goes or it stays, and the next step looks behind it
abbrev pub visited : List Version → ℕ → Version → TrimStep
visited vs c v = if is_trimmed vs c v
    then record { told = Trimmed.removed v.rev; versions = without_rev (Some v.rev) vs; place = place_after v.rev }
    else record { told = Trimmed.kept v.rev; versions = vs; place = place_after v.rev }

-- no version is left to look at: the step tells how many there are, those above the compaction too
abbrev pub finished : List Version → Rev → TrimStep
finished vs p = record { told = Trimmed.done (length vs); versions = vs; place = p }

abbrev pub trimmed_next : List Version → Rev → ℕ → Option Version → TrimStep
trimmed_next vs p c None = finished vs p
trimmed_next vs p c (Some v) = if nat_le v.rev.main c then visited vs c v else finished vs p

-- one step over versions that rise, from a place on: it looks at the first version that is not before the place, if
-- that is at or below c
unfoldable pub trimmed : List Version → Rev → ℕ → TrimStep
trimmed vs p c = trimmed_next vs p c (find (λ v. not (rev_lt v.rev p)) vs)

-- What is known before an operation of a transaction, as its answers are read.
use Rattle.std.specs.Prelude.{◌≡◌, ℕ, suc, ◌+◌, List, [], ◌∷◌, map, filter, Bool, not, ◌&&◌, nat_le, nat_lt, Option, MatchOption, ⊤, Vec}
use Rattle.std.specs.declared.alloc.Global.{Global}
use Rattle.std.specs.Borrow.{Bor}
use Rattle.kv_model.specs.declared.version.Version.{Version}
use Rattle.kv_model.specs.declared.version.KeyRange.{KeyRange}
use Rattle.kv_model.specs.Keys.{in_range}
use Rattle.kv_model.specs.Txns.{place_before}
use Rattle.range_view.specs.Stored.{Stored, Viewed}
use Rattle.txn_core.specs.declared.known.Known.{Known}
use Rattle.txn_core.specs.Emptied.{AreEmptied}

-- what is kept, as a transaction that began at a revision finds it behind so many changes
abbrev pub found_behind : Stored → ℕ → ℕ → Viewed
found_behind s before sub = record {
  versions = s.versions;
  compacted = s.compacted;
  revision = before;
  place = place_before (before + 1) sub;
}

-- it is numbered from one on, up to another, and of a key that is not of the range
abbrev pub strays : KeyRange → ℕ → ℕ → Version → Bool
strays r sub next v = nat_le sub v.rev.sub && nat_lt v.rev.sub next && not (in_range r v.key)

-- they are numbered from this one on, without a gap
abbrev pub AreNumbered : ℕ → List (Bor Version) → Type 0
AreNumbered n [] = ⊤
AreNumbered n (v ∷ vs) = (v.now.rev.sub ≡ n) × AreNumbered (suc n) vs

-- they are all versions from a main revision on, numbered from 0 on
pub record AreChanges (vs : List Version) (main : ℕ) (ws : List (Bor Version)) : Type 0 where
  pub all : map (λ w. w.now) ws ≡ filter (λ v. nat_le main v.rev.main) vs
  pub numbered : AreNumbered 0 ws

abbrev pub MayBeChanges : List Version → ℕ → Option (Vec (Bor Version) Global) → Type 0
MayBeChanges vs main o = MatchOption o ⊤ (λ v. AreChanges vs main v.items)

-- the ranges that are emptied are so, the live keys are those that are found, and the changes are known, or not yet
pub record AreKnown (s : Stored) (before sub : ℕ) (k : Known) : Type 0 where
  pub emptied : AreEmptied s.versions (before + 1) sub k.emptied
  pub keys : k.keys ≡ found_behind s before sub
  pub changes : MayBeChanges s.versions (before + 1) k.changes

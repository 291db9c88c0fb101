-- What a put and a delete add to the versions.
use Rattle.std.specs.Prelude.{◌≡◌, ◌≢◌, ℕ, suc, ◌+◌, ◌<◌, ◌≤◌, ◌^◌, List, [], ◌∷◌, true}
use Rattle.std.specs.Prelude.{Option, MatchOption}
use Rattle.std.specs.List.{AllByRecursion}
use Rattle.kv_model.specs.declared.version.Rev.{Rev}
use Rattle.kv_model.specs.declared.version.Version.{Version}
use Rattle.kv_model.specs.History.{KeyValue}
use Rattle.range_view.specs.Stored.{is_next}
use Rattle.txn_core.specs.KeyWrites.{tombstone, IsCountedTo}

-- a key that holds this was put no more often than there are revisions
abbrev pub IsHeldTo : ℕ → Option KeyValue → Type 0
IsHeldTo revision held = MatchOption held (Unit {0}) (λ kv. kv.version ≤ revision)

-- the place of the first change of the next revision
abbrev pub next_rev : ℕ → Rev
next_rev revision = record { main = revision + 1; sub = 0 }

-- the tombstones of live keys, numbered on
abbrev pub tombstones : ℕ → ℕ → List KeyValue → List Version
tombstones main sub [] = []
tombstones main sub (kv ∷ kvs) = tombstone main sub kv.key ∷ tombstones main (suc sub) kvs

-- there are some versions, they are those of the revision after this one, their numbers within it fit 64 bits, and they
-- are counted
pub record AreNext (revision : ℕ) (vs : List Version) : Type 0 where
  pub some : vs ≢ []
  pub next : is_next revision vs ≡ true
  pub places : AllByRecursion (λ v. v.rev.sub < 2 ^ 64) vs
  pub counted : AllByRecursion (λ v. IsCountedTo (revision + 1) v.body) vs

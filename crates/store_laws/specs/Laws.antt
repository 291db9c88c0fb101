-- Laws of the definitions.
use Rattle.std.specs.Prelude.{◌≡◌, ℕ, ℤ, pos, codes, List, [], ◌∷◌, ◌++◌, true, false, None, ⊤}
use Rattle.std.specs.List.{AllByRecursion}
use Rattle.kv_model.specs.declared.version.Rev.{Rev}
use Rattle.kv_model.specs.declared.version.Version.{Version}
use Rattle.kv_model.specs.declared.version.KeyRange.{KeyRange}
use Rattle.kv_model.specs.Keys.{key_cmp, in_range}
use Rattle.kv_model.specs.History.{Mutation, Action, dress, value_at, rev_le, version_of}
use Rattle.kv_model.specs.declared.version.Body.TheVariants.{Put}
use Rattle.kv_model.specs.Ranges.{live, keys}
use Rattle.kv_model.specs.Txns.{extend, Touch, collides}
use Rattle.kv_model.specs.Questions.{IsLeast}
use Rattle.kv_model.specs.Feed.{Published}
use Rattle.store_laws.specs.Snapshots.{store_of, absorb}
use Rattle.kv_model.specs.World.{opening}
use Rattle.store_laws.specs.Sound.{IsSound}
use Rattle.store_laws.specs.Stands.{Store, StandsFor}
use Rattle.kv_model.specs.declared.ids.Ids.{Ids}
use Rattle.kv_model.specs.Headline.{IsRun}
use Rattle.std.specs.declared.cmp.Ordering.TheVariants.{Less}

-- every change is at the place or before it
abbrev pub IsBy : Rev → List Mutation → Type 0
IsBy p ms = AllByRecursion (λ m. rev_le m.rev p ≡ true) ms

abbrev pub DressGoesOn : Type 0
DressGoesOn = (ms : List Mutation) (m : Mutation) → dress (ms ++ m ∷ []) ≡ extend (dress ms) m

abbrev pub LiveKeysAreByValue : Type 0
LiveKeysAreByValue = (us vs : List Version) (p : Rev) (r : KeyRange)
    → ((k : List ℕ) → value_at us p k ≡ value_at vs p k) → live us p r ≡ live vs p r

-- each key is below those after it
abbrev pub IsStrictlyAscending : List (List ℕ) → Type 0
IsStrictlyAscending [] = ⊤
IsStrictlyAscending (k ∷ ks) = AllByRecursion (λ l. key_cmp k l ≡ Less) ks × IsStrictlyAscending ks

abbrev pub KeysAscend : Type 0
KeysAscend = (vs : List Version) → IsStrictlyAscending (keys vs)

abbrev pub CollidesIsSymmetric : Type 0
CollidesIsSymmetric = (t u : Touch) → collides t u ≡ collides u t

-- a key that was deleted last holds nothing
abbrev pub NothingAfterDelete : Type 0
NothingAfterDelete = (ms : List Mutation) (p q : Rev) (k : List ℕ)
    → IsBy p (ms ++ (record { rev = q; key = k; action = Action.delete }) ∷ [])
    → value_at (dress (ms ++ (record { rev = q; key = k; action = Action.delete }) ∷ [])) p k ≡ None

-- the put after a tombstone starts again at version 1
abbrev pub FirstAfterDelete : Type 0
FirstAfterDelete = (ms : List Mutation) (p q : Rev) (k value : List ℕ) (lease : ℤ)
    → (version_of ((ms ++ (record { rev = p; key = k; action = Action.delete }) ∷ [])
    ++ (record { rev = q; key = k; action = Action.put value lease }) ∷ []) (record {
      rev = q;
      key = k;
      action = Action.put value lease;
    })).body
    ≡ Put q.main 1 lease value

-- a range that has no key shows none
abbrev pub EmptyRangeIsEmpty : Type 0
EmptyRangeIsEmpty = (vs : List Version) (p : Rev) (r : KeyRange) → ((k : List ℕ) → in_range r k ≡ false)
    → live vs p r ≡ []

-- ---- a worked compaction: a is put and deleted, b is put, and all is compacted at 4

abbrev pub mutation : ℕ → List ℕ → Action → Mutation
mutation main k a = record { rev = record { main = main; sub = 0 }; key = k; action = a }

abbrev pub put_delete_put : List Mutation
put_delete_put = mutation 2 (codes "a") (Action.put (codes "1") (pos 0)) ∷ mutation 3 (codes "a") Action.delete
    ∷ mutation 4 (codes "b") (Action.put (codes "1") (pos 0)) ∷ []

abbrev pub last_put : List Version
last_put = (record { rev = record { main = 4; sub = 0 }; key = codes "b"; body = Put 4 1 (pos 0) (codes "1") }) ∷ []

abbrev pub LastPutIsLeast : Type 0
LastPutIsLeast = IsLeast last_put put_delete_put 4

-- ---- where it all begins

abbrev pub EmptyRunIsRun : Type 0
EmptyRunIsRun = (ids : Ids) → IsRun ids [] []

abbrev pub OpeningIsSound : Type 0
OpeningIsSound = IsSound opening

abbrev pub blank_store : Store
blank_store = record { versions = []; revision = 1; compacted = 0; leases = []; clock = 0; watches = []; made = 0 }

abbrev pub BlankStands : Type 0
BlankStands = StandsFor blank_store opening

-- the feed's store grows by one operation at a time
abbrev pub FeedGoesOn : Type 0
FeedGoesOn = (ops : List Published) (op : Published) → store_of (ops ++ op ∷ []) ≡ absorb (store_of ops) op

-- Laws of a history that grows by one command at a time, and of a store that stands for a world while it does.
use Rattle.std.specs.Prelude.{◌≡◌, ◌≢◌, ◌⊎◌, ℕ, ◌+◌, ◌^◌, ◌≤◌, List, [], ◌++◌, length, Bool, false, None, Some, is_some}
use Rattle.std.specs.Prelude.{Ok, Err}
use Rattle.std.specs.List.{AllByRecursion}
use Rattle.kv_model.specs.declared.version.Rev.{Rev}
use Rattle.kv_model.specs.declared.version.Version.{Version}
use Rattle.kv_model.specs.declared.call.RangeQuery.{RangeQuery}
use Rattle.kv_model.specs.declared.call.PutRequest.{PutRequest}
use Rattle.kv_model.specs.declared.call.DeleteRequest.{DeleteRequest}
use Rattle.kv_model.specs.declared.refusal.Refusal.{Refusal}
use Rattle.kv_model.specs.History.{Mutation, now, dress, value_at, value_now, rev_le, end_of}
use Rattle.store_laws.specs.Sound.{IsHistory, IsBatch}
use Rattle.kv_model.specs.Ranges.{live, range_answer}
use Rattle.kv_model.specs.Txns.{extend_all, added_by}
use Rattle.kv_model.specs.Calls.{Call}
use Rattle.kv_model.specs.Told.{Expiry}
use Rattle.kv_model.specs.World.{World, revision, changed}
use Rattle.kv_model.specs.Step.{refused_or, commit_at, made_in, perform, expire}
use Rattle.kv_model.specs.Wire.{raised}
use Rattle.kv_model.specs.Questions.{IsKept, IsGood}
use Rattle.store_laws.specs.Stands.{Store, StandsFor, grown_noted}
use Rattle.store_laws.specs.Stores.{refusal_of_range, reply_of_range, refusal_of_put, reply_of_put, changes_of_put}
use Rattle.store_laws.specs.Stores.{refusal_of_delete, reply_of_delete, changes_of_delete}

-- ---- histories

-- a history goes on with the changes of the next revision
abbrev pub HistoryGoesOn : Type 0
HistoryGoesOn = (ms us : List Mutation) → IsHistory ms → IsBatch (now ms + 1) us → IsHistory (ms ++ us)

-- what stands behind a place is not seen from it
abbrev pub LaterIsNotSeen : Type 0
LaterIsNotSeen = (vs us : List Version) (p : Rev) (k : List ℕ) → AllByRecursion (λ v. rev_le v.rev p ≡ false) us
    → value_at (vs ++ us) p k ≡ value_at vs p k

-- at the end of its last revision a key holds what it holds at last
abbrev pub LastIsPresent : Type 0
LastIsPresent = (ms : List Mutation) → IsHistory ms → (k : List ℕ)
    → value_at (dress ms) (end_of (now ms)) k ≡ value_now (dress ms) k

-- ---- revisions

-- the second world's revision is the first's, and none is told, or the next, and that is told
abbrev pub RaisesByOne : World → World → Type 0
RaisesByOne w u = ((revision u ≡ revision w) × (raised w u ≡ None))
    ⊎ ((revision u ≡ revision w + 1) × (raised w u ≡ Some (revision w + 1)))

-- a command raises the revision by one or not at all
abbrev pub CommandRaisesByOne : Type 0
CommandRaisesByOne = (w : World) (call : Call) → RaisesByOne w (perform w call).1

-- and so does a step of expiry
abbrev pub ExpiryRaisesByOne : Type 0
ExpiryRaisesByOne = (w : World) → RaisesByOne w (expire w).1

abbrev pub says_raised : Expiry → Bool
says_raised Expiry.nothing = false
says_raised (Expiry.expired id r rose) = rose
says_raised Expiry.spent = false

-- which tells whether the revision rose
abbrev pub ExpiryTellsRaise : Type 0
ExpiryTellsRaise = (w : World) → says_raised (expire w).0 ≡ is_some (raised w (expire w).1)

-- ---- good parts

-- a good part holds at each kept revision what the whole history holds
abbrev pub GoodHoldsTheSame : Type 0
GoodHoldsTheSame = (vs : List Version) (ms : List Mutation) (c r : ℕ) (k : List ℕ) → IsGood vs ms c → IsHistory ms
    → IsKept c (now ms) r
    → value_at vs (end_of r) k ≡ value_at (dress ms) (end_of r) k

-- and answers every Range as it does, whatever is asked
abbrev pub GoodAnswersTheSame : Type 0
GoodAnswersTheSame = (vs : List Version) (ms : List Mutation)
    (c : ℕ) (q : RangeQuery) → IsGood vs ms c → IsHistory ms → c ≤ now ms
    → range_answer vs c (now ms) (end_of (now ms)) q ≡ range_answer (dress ms) c (now ms) (end_of (now ms)) q

-- a good part stays good as it and the history grow by one command
abbrev pub GoodGoesOn : Type 0
GoodGoesOn = (vs : List Version) (ms us : List Mutation) (c : ℕ) → IsGood vs ms c → IsHistory ms → c ≤ now ms
    → IsBatch (now ms + 1) us
    → IsGood (extend_all vs us) (ms ++ us) c

-- both grow by the same versions
abbrev pub GoodAddsTheSame : Type 0
GoodAddsTheSame = (vs : List Version) (ms us : List Mutation) (c : ℕ) → IsGood vs ms c → IsHistory ms → c ≤ now ms
    → (extend_all vs us ≡ vs ++ added_by (dress ms) us) × (dress (ms ++ us) ≡ dress ms ++ added_by (dress ms) us)

-- ---- a store that stands for a world

-- with the changes of one more command, of which its watches take note
abbrev pub StoreGoesOn : Type 0
StoreGoesOn = (s : Store) (w : World) → StandsFor s w → (us : List Mutation) → IsBatch (s.revision + 1) us
    → StandsFor (grown_noted s us) (changed w us)

-- a Range that is not refused is answered from the store
abbrev pub StoreAnswersRange : Type 0
StoreAnswersRange = (s : Store) (w : World) → StandsFor s w → (q : RangeQuery) → refusal_of_range s q ≡ None
    → made_in w (Call.range q) ≡ Ok (reply_of_range s q, w)

abbrev pub StoreRefusesRange : Type 0
StoreRefusesRange = (s : Store) (w : World) → StandsFor s w → (q : RangeQuery) (e : Refusal)
    → refusal_of_range s q ≡ Some e → made_in w (Call.range q) ≡ Err e

-- a Put is refused, answered and made as the store tells
abbrev pub StoreTellsPut : Type 0
StoreTellsPut = (s : Store) (w : World) → StandsFor s w → (p : PutRequest)
    → made_in w (Call.put p)
    ≡ refused_or (refusal_of_put s p) (commit_at s.revision (reply_of_put s p) w (changes_of_put s p))

-- and is a change of the next revision
abbrev pub PutIsBatch : Type 0
PutIsBatch = (s : Store) (w : World) → StandsFor s w → (p : PutRequest) → p.key ≢ []
    → IsBatch (s.revision + 1) (changes_of_put s p)

abbrev pub StoreTellsDelete : Type 0
StoreTellsDelete = (s : Store) (w : World) → StandsFor s w → (d : DeleteRequest)
    → made_in w (Call.delete d)
    ≡ refused_or (refusal_of_delete d) (commit_at s.revision (reply_of_delete s d) w (changes_of_delete s d))

abbrev pub DeletesAreBatch : Type 0
DeletesAreBatch = (s : Store) (w : World) → StandsFor s w → (d : DeleteRequest)
    → length (live s.versions (end_of s.revision) d.range) ≤ 2 ^ 64
    → IsBatch (s.revision + 1) (changes_of_delete s d)

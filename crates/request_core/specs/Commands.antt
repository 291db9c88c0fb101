-- What a command does with a core, and what one that is refused leaves.
use Rattle.std.specs.Prelude.{◌≡◌, ◌⊎◌, ◌<◌, ℕ, List, ◌++◌, Bool, true, false, ◌||◌, nat_lt, Option, Some, Result}
use Rattle.std.specs.Prelude.{Ok}
use Rattle.std.specs.List.{AllByRecursion}
use Rattle.kv_model.specs.declared.version.Version.{Version}
use Rattle.std.specs.Prelude.{MatchBool, fold, ⊤}
use Rattle.kv_model.specs.declared.refusal.Refusal.{Refusal}
use Rattle.kv_model.specs.declared.refusal.Refusal.TheVariants.{RevisionsSpent}
use Rattle.kv_model.specs.Calls.{Call}
use Rattle.kv_model.specs.Feed.{Published}
use Rattle.kv_model.specs.Step.{made_in, perform, expire}
use Rattle.kv_model.specs.Told.{Reply, Answer, Trimmed, Expiry as ModelExpiry}
use Rattle.kv_model.specs.Wire.{raised, number_made, changes_beside, trim_told}
use Rattle.kv_model.specs.World.{World}
use Rattle.kv_model.specs.Headline.{Trims, kept_after}
use Rattle.store_laws.specs.Trimming.{oldest_place}
use Rattle.kv_model.specs.Certificates.{Claim}
use Rattle.store_laws.specs.TrimmingLaws.{IsOwn, IsVisit}
use Rattle.trim_core.specs.declared.trimmer.Trim.{Trim}
use Rattle.trim_core.specs.Told.{told_of}
use Rattle.store_laws.specs.Changes.{Takes, change_of, change_of_expiry}
use Rattle.store_laws.specs.Snapshots.{absorb}
use Rattle.store_laws.specs.Stands.{Store, StandsFor}
-- where memory is wanting too
pub use Rattle.request_core.specs.Refusing.{first_refusal, fault_without_memory}
use Rattle.request_core.specs.declared.answer.Expiry.{Expiry}
use Rattle.request_core.specs.declared.answer.Receipt.{Receipt}
use Rattle.request_core.specs.declared.answer.Todo.{Todo}
use Rattle.request_core.specs.State.{CoreState, counted, raised_from, stamp_after}
use Rattle.request_core.specs.State.{has_removed, keeping_of, tables_of, trim_of, trimmed_by}
use Rattle.request_core.specs.Answers.{IsAllowed, IsReadable, IsRefusal, answer_of, has_changed, is_beside, is_memory}
use Rattle.request_core.specs.Answers.{expiry_view, has_expired, reply_left, watch_of}

-- ---- a command that is accepted

-- a command was accepted as the model accepts it in this world, which then is that one
pub record Accepts (old new : CoreState) (r : Receipt) (w : World) (told : Result Answer Refusal)
    (after : World) : Type 0 where
  pub answers : told ≡ Ok (answer_of r new)
  pub stands : StandsFor new.store after
  -- what is kept is what was kept and what the world has besides, and an accepted Compact has trimming begin again
  pub keeps : keeping_of new ≡ kept_after w after (keeping_of old)
  pub raised : r.raised ≡ raised w after
  pub watch : r.watch ≡ number_made w after

-- what an accepted command did with a core, from the first state to the second, and what its receipt says of it
pub record Does (old new : CoreState) (call : Call) (r : Receipt) : Type 0 where
  -- in each world that the core stood for, it is what the model does
  pub accepted : (w : World) → StandsFor old.store w → Accepts old new r w (perform w call).0 (perform w call).1
  -- the receipt can be answered on the state that is left
  pub readable : IsReadable r new
  -- where the receipt tells of no change, the core is as it was
  pub unchanged : has_changed r ≡ false → new ≡ old
  -- the command is counted where it changed something
  pub stamp : new.stamp ≡ stamp_after (has_changed r) old.stamp
  -- it has the number of the watch that the command made, if it made one
  pub watch : r.watch ≡ watch_of r.todo
  -- it changed something besides the versions where it does so in the model
  pub beside : (w : World) → StandsFor old.store w → is_beside r.todo ≡ changes_beside w call

-- ---- a command that is refused

-- doing the command may want memory
abbrev pub takes_memory : Call → Bool
takes_memory (Call.range q) = false
takes_memory (Call.compact r physical) = false
takes_memory (Call.keep_alive id) = false
takes_memory (Call.time_to_live id asked) = false
takes_memory Call.leases = false
takes_memory _ = true

-- what a refused command did with a core, from the first state to the second
pub record Refuses (old new : CoreState) (call : Call) (e : Refusal) : Type 0 where
  -- the refusal that the model has before memory is asked for comes as it is
  pub first : (w : World) → StandsFor old.store w → (f : Refusal) → fault_without_memory w call ≡ Some f → e ≡ f
  -- in each world that the core stood for, the model refuses it so, or memory was wanting
  pub refused : (w : World) → StandsFor old.store w → IsRefusal e (first_refusal (perform w call).0)
  -- only a command that may want memory is refused for want of it
  pub free : takes_memory call ≡ false → is_memory e ≡ false
  -- the core is as it was
  pub kept : new ≡ old

-- what shows that a call which takes no memory itself is not refused by the sink either: only a Compact is told to one
abbrev pub IsToldFreely : Type 0 → Call → Type 0
IsToldFreely never_fails (Call.compact r physical) = never_fails
IsToldFreely never_fails _ = ⊤

-- what a command did that is refused over a sink, of which the first type shows that its taking never fails
pub record RefusesTo (never_fails : Type 0) (old new : CoreState) (call : Call) (e : Refusal) : Type 0 where
  -- the refusal that the model has before memory is asked for comes as it is
  pub first : (w : World) → StandsFor old.store w → (f : Refusal) → fault_without_memory w call ≡ Some f → e ≡ f
  -- in each world that the core stood for, the model refuses it so, or memory was wanting
  pub refused : (w : World) → StandsFor old.store w → IsRefusal e (first_refusal (perform w call).0)
  -- only a command that may want memory is refused for want of it, and a Compact where the sink finds none
  pub free : takes_memory call ≡ false → IsToldFreely never_fails call → is_memory e ≡ false
  -- the core is as it was
  pub kept : new ≡ old

-- ---- what readers beside the writer are told of a command

-- from the first state of a sink to the second it took what the model publishes of the command, in each world that the
-- store stood for
abbrev pub IsToldChange : {X : Type 0} → (X → Published → X → Type 0) → Store → Call → X → X → Type 0
IsToldChange takes s call f g = (w : World) → StandsFor s w → Takes takes (change_of w call) f g

-- what a core keeps is what it kept, with what the model publishes of the command
abbrev pub StoresChange : CoreState → CoreState → Call → Type 0
StoresChange old new call = (w : World) → StandsFor old.store w → tables_of new ≡ fold absorb (tables_of old) (change_of w call)

-- and so it is of a step of expiry
abbrev pub IsToldExpiry : {X : Type 0} → (X → Published → X → Type 0) → Store → X → X → Type 0
IsToldExpiry takes s f g = (w : World) → StandsFor s w → Takes takes (change_of_expiry w) f g

abbrev pub StoresExpiry : CoreState → CoreState → Type 0
StoresExpiry old new = (w : World) → StandsFor old.store w → tables_of new ≡ fold absorb (tables_of old) (change_of_expiry w)

-- ---- a step of expiry

-- a step of expiry did what the model does in this world, which then is that one
pub record ExpiresIn (old new : CoreState) (e : Expiry) (w : World) (told : ModelExpiry) (after : World) : Type 0 where
  pub tells : expiry_view e ≡ told
  pub stands : StandsFor new.store after
  -- what is kept is what was kept and what the world has besides
  pub keeps : keeping_of new ≡ kept_after w after (keeping_of old)

-- what a step of expiry did with a core, from the first state to the second, and what it tells
pub record Expires (old new : CoreState) (e : Expiry) : Type 0 where
  -- in each world that the core stood for, it is what the model does
  pub expired : (w : World) → StandsFor old.store w → ExpiresIn old new e w (expire w).0 (expire w).1
  -- where no lease was due, the core is as it was
  pub unchanged : has_expired e ≡ false → new ≡ old
  -- the step is counted where it revoked a lease
  pub stamp : new.stamp ≡ stamp_after (has_expired e) old.stamp

-- what one that is refused did
pub record RefusesExpiry (old new : CoreState) (e : Refusal) : Type 0 where
  -- memory was wanting, or the revisions are spent, and so they are in each world that the core stood for
  pub refused : MatchBool (is_memory e) ⊤
      ((e ≡ RevisionsSpent) × ((w : World) → StandsFor old.store w → (expire w).0 ≡ ModelExpiry.spent))
  -- the core is as it was
  pub kept : new ≡ old

-- ---- a trimming step

-- what a trimming step did with a core that stood for this world
pub record MayTrim (w : World) (old new : CoreState) (told : Trimmed) : Type 0 where
  -- no answer has changed: it stands for the same world
  pub stands : StandsFor new.store w
  -- the step is one that a run may make, told with the certificate of what is kept or with none: what goes no least
  -- list has, and what stays some least list has
  pub may : (certificate : Option (List Claim)) → IsOwn w old.store.versions certificate
      → Trims w (keeping_of old) (keeping_of old).ahead (trim_told told certificate) (keeping_of new)

-- and whatever world it stood for
pub record TrimsOnce (old new : CoreState) (t : Trim) : Type 0 where
  -- it tells what the rule tells, and leaves what the rule leaves, counted where a version went
  pub told : told_of t ≡ (trim_of old).told
  pub left : new ≡ counted (has_removed (told_of t)) (trimmed_by old (trim_of old))
  -- it visits the next version, and it is done where there is none
  pub visit : IsVisit (told_of t) (keeping_of old).ahead (keeping_of new).ahead
  pub trims : (w : World) → StandsFor old.store w → MayTrim w old new (told_of t)

-- a step, before it is counted
pub record LeavesBy (old new : CoreState) (t : Trimmed) : Type 0 where
  pub told : t ≡ (trim_of old).told
  pub left : new ≡ trimmed_by old (trim_of old)
  pub visit : IsVisit t (keeping_of old).ahead (keeping_of new).ahead
  pub trims : (w : World) → StandsFor old.store w → MayTrim w old new t

-- ---- on the way to a receipt

-- in this world the model answers the command so, and the store stands for the world after it
pub record Makes (w : World) (call : Call) (told : Reply) (new : Store) : Type 0 where
  pub after : World
  pub made : made_in w call ≡ Ok (told, after)
  pub stands : StandsFor new after

-- versions above the revision are added, perhaps none, and trimming goes on from where it was
pub record AddsVersions (old new : CoreState) : Type 0 where
  pub added : List Version
  pub versions : new.store.versions ≡ old.store.versions ++ added
  pub above : AllByRecursion (λ v. old.store.revision < v.rev.main) added
  pub compacted : new.store.compacted ≡ old.store.compacted
  pub place : new.place ≡ old.place

-- the compaction rises, and trimming begins again
pub record StartsOver (old new : CoreState) : Type 0 where
  pub versions : new.store.versions ≡ old.store.versions
  pub up : old.store.compacted < new.store.compacted
  pub place : new.place ≡ oldest_place

-- a change that is not counted yet, and that is none where neither the revision rose nor something else changed, with
-- the number of the watch that it made
pub record Moves (old new : CoreState) (beside : Bool) (watch : Option ℕ) : Type 0 where
  pub keeps : AddsVersions old new ⊎ StartsOver old new
  pub unchanged : (nat_lt old.store.revision new.store.revision || beside) ≡ false → new ≡ old
  pub stamp : new.stamp ≡ old.stamp
  pub watches : raised_from old.store.made new.store.made ≡ watch

-- what a command has done, for which this is left to read, before it is counted
pub record CarriesOut (old new : CoreState) (call : Call) (t : Todo) : Type 0 where
  pub makes : (w : World) → StandsFor old.store w → Makes w call (reply_left t new.store new.store.revision) new.store
  pub allowed : IsAllowed t new.store
  pub beside : (w : World) → StandsFor old.store w → is_beside t ≡ changes_beside w call
  pub moves : Moves old new (is_beside t) (watch_of t)

-- the receipt of a command that found a revision, left this to read in the first state, and is counted in the second
pub record IsIssued (before : ℕ) (t : Todo) (old new : CoreState) (r : Receipt) : Type 0 where
  pub todo : r.todo ≡ t
  pub revision : r.revision ≡ new.store.revision
  pub stamp : r.stamp ≡ new.stamp
  pub raised : r.raised ≡ raised_from before old.store.revision
  pub watch : r.watch ≡ watch_of t
  pub counts : new ≡ counted (has_changed r) old

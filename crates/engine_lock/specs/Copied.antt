-- The core and the feed of its readers, who have the two copies of the tables between them.
use Rattle.std.specs.Prelude.{◌≡◌, List, [], ◌++◌, Bool, true, false, Option, None, Some, ⊤}
use Rattle.kv_model.specs.Feed.{Published}
use Rattle.logbook.specs.Pages.{Book}
use Rattle.store_laws.specs.Snapshots.{store_of}
use Rattle.event_book.specs.Events as events
use Rattle.event_book.specs.Publishing.{published_by}
use Rattle.request_core.specs.State.{CoreState}
use Rattle.request_core.specs.Apart.{CanJoin, joined}
use Rattle.snapshot_feed.specs.States.{FeedState}
use Rattle.snapshot_feed.specs.declared.writer.Lent.{Lent}
use Rattle.engine_lock.specs.declared.copies.Hold.{Hold}
use Rattle.engine_lock.specs.declared.copies.Hold.TheVariants.{Whole, Apart}

-- of which list of events readers are told, the front of it that they are shown, and what was done since
pub record Publication : Type 0 where
  pub book : Book
  pub published : List events.Entry
  pub pending : List Published

-- all that readers are told of, shown already or not
abbrev pub appended : Publication → List Published
appended p = published_by p.published ++ p.pending

pub record Copied : Type 0 where
  pub core : CoreState
  pub feed : Publication

-- the core: whole, or of the tables that readers are shown
abbrev pub core_held : Hold → FeedState → CoreState
core_held (Whole core ops) f = core
core_held (Apart rest) f = joined (store_of (published_by f.published)) rest

-- what was done on tables that are not shown yet
abbrev pub ops_held : Hold → List Published
ops_held (Whole core ops) = ops
ops_held (Apart rest) = []

abbrev pub copied : Hold → FeedState → Copied
copied h f = record {
  core = core_held h f;
  feed = record { book = f.book; published = f.published; pending = ops_held h };
}

-- a core that is whole has the spare copy; else that is with the feed
abbrev pub IsHeld : Hold → FeedState → Type 0
IsHeld (Whole core ops) f = f.lent ≡ true
IsHeld (Apart rest) f = (f.lent ≡ false) × CanJoin (store_of (published_by f.published)) rest

-- whether the core has no tables of its own
abbrev pub is_apart : Hold → Bool
is_apart (Whole core ops) = false
is_apart (Apart rest) = true

-- with these tables as its own
abbrev pub CanOwn : Lent → Hold → Type 0
CanOwn l (Whole core ops) = ⊤
CanOwn l (Apart rest) = CanJoin l.tables rest

abbrev pub owning : Lent → Hold → Hold
owning l (Whole core ops) = Whole core ops
owning l (Apart rest) = Whole (joined l.tables rest) l.ops

-- and what is left of it without them
abbrev pub IsParted : Hold → Hold → Option Lent → Type 0
IsParted (Whole core ops) (Apart rest) (Some l) = (joined l.tables rest ≡ core) × CanJoin l.tables rest × (l.ops ≡ ops)
IsParted (Apart rest) h None = h ≡ Apart rest
IsParted _ _ _ = ⊥

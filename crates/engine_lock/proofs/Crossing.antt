-- A client goes from thread to thread, whatever names its engine: what it has seen owns nothing, and its reader owns plain memory alone; so it is with what stands under the lock, and with the engine.
use mathlib.Core.List.{List, [], ◌∷◌}
use Prim.Native.Nat.{ℕ}
use mir.Syntax.{Sym, Ty}
use denote.RattleType.{RattleType}
use denote.Exit.{no}
use denote.Param.{arg, param}
use denote.Param.Send.{AllSend, IsSend, IsSync, arg_send, param_send, plain_send, recorded_send, sendable, struct_send, view_send}
use denote.Param.SendFields.{FieldsHave, as_row_send, declared_send}
use denote.Struct.Declared.{shape}
use denote.Struct.Field.{row_field}
use denote.Struct.Tuple.{TupleAt, parts, type_at}
use Rattle.std.specs.declared.sync.ledger.Ledger as ledger
use Rattle.std.proofs.Crossing.{crosses}
use Rattle.std.proofs.alloc.Global.TheSendSync as heap
use Rattle.lease_book.proofs.tree.Tree.TheLaws.TheKnot as tree
use Rattle.range_view.proofs.tables.Tables.TheSendSync as tables
use Rattle.watch_hub.proofs.hub.WatchHub.TheSendSync as hub
use Rattle.lease_book.specs.contracts.book.LeaseBook as LeaseBook
use Rattle.request_core.below.lease_keys.proofs.index.LeaseKeys.TheSendSync as keys
use Rattle.request_core.specs.contracts.store.Core as Core
use Rattle.request_core.specs.contracts.store.Core.TheInside as inside
use Rattle.request_core.specs.contracts.store.rest.Rest as Rest
use Rattle.request_core.specs.contracts.store.rest.Rest.TheInside as rest_inside
use Rattle.snapshot_feed.proofs.feed.Feed.TheSendSync as feed
use Rattle.snapshot_feed.proofs.ops.Ops.TheSendSync as ops
use Rattle.snapshot_feed.proofs.reader.SnapReader.TheSendSync as reader
use Rattle.recording.proofs.Crossing.{lines_send}
use Rattle.event_book.specs.declared.naming.ListName as lists
use Rattle.event_book.proofs.holder.Holder.TheSendSync as holder
use Rattle.event_book.proofs.listing.Listing.TheSendSync as listing
use Rattle.event_book.proofs.roster.Roster.TheSendSync as roster
use Rattle.engine_lock.proofs.taken.Taken.TheSendSync as taken
use Rattle.engine_lock.specs.declared.opening.EngineName as names
use Rattle.engine_lock.specs.contracts.client.Client as Client
use Rattle.engine_lock.specs.contracts.copies.Copies as Copies
use Rattle.engine_lock.specs.contracts.copies.Copies.TheInside as copies_inside
use Rattle.engine_lock.specs.contracts.copies.Hold as Hold
use Rattle.engine_lock.specs.contracts.engine.Engine as Engine
use Rattle.engine_lock.specs.contracts.state.State as State
use Rattle.engine_lock.specs.contracts.state.State.TheInside as under

pub client_send : (T : RattleType) (n : names.Ghosts T.Denot) (b : lists.Ghosts T.Denot) (g : ledger.Ghosts T.Denot) → IsSend (Client.the_row T n b g)
client_send T n b g = search (sendable, holder.the_send, reader.the_send) depth 40

-- ---- an engine, whose core owns plain memory alone
book_send : IsSend LeaseBook.the_row
book_send = search (sendable, crosses, tree.crosses) depth 60 fits 20000

core_send : IsSend Core.the_row
core_send = view_send inside.the_row _ _ _ _ (recorded_send (inside.the_field).row _ _ (inside.the_type).to_one (struct_send (shape inside.the_type)
    (heap.the_field_send, (tables.the_send, (book_send, (keys.the_send, (hub.the_send, (plain_send _ _ _ _ _, tt))))))))

rest_send : IsSend Rest.the_row
rest_send = view_send rest_inside.the_row _ _ _ _ (recorded_send (rest_inside.the_field).row _ _ (rest_inside.the_type).to_one (struct_send (shape rest_inside.the_type)
    (heap.the_field_send, (book_send, (keys.the_send, (hub.the_send, (plain_send _ _ _ _ _, tt)))))))

hold_send : IsSend (Hold.the_field).row
hold_send = search (sendable, core_send, rest_send, ops.the_send) depth 40

copies_send : IsSend Copies.the_row
copies_send = view_send copies_inside.the_row _ _ _ _ (recorded_send (copies_inside.the_field).row _ _ (copies_inside.the_type).to_one
    (struct_send (shape copies_inside.the_type) (hold_send, (feed.the_send, tt))))

module _ (T : RattleType) (n : names.Ghosts T.Denot) (b : lists.Ghosts T.Denot) (g : ledger.Ghosts T.Denot) where
  state_send : IsSend (State.the_row T n b g)
  state_send = view_send (under.the_row T n b g) _ _ _ _ (recorded_send (under.the_field T n b g).row _ _ (under.the_type T n b g).to_one
      (struct_send (shape (under.the_type T n b g)) (copies_send, (listing.the_send T b g, (plain_send _ _ _ _ _, (lines_send, (taken.the_send T n b g, tt)))))))

  pub engine_sync : IsSync (Engine.the_row T n b g)
  engine_sync = search (sendable, crosses, state_send, roster.the_send, taken.the_send) depth 60

-- ---- what a thread is started with
fields_send : (Ts : List RattleType) → AllSend Ts → FieldsHave IsSend (parts Ts)
fields_send [] s = tt
fields_send (R ∷ Ts) s = (as_row_send (row_field R) s.0, fields_send Ts s.1)

-- a closure goes there with all that it captured
pub closure_send : (i : ℕ) (τ : Ty) (ν : Sym) (Ts : List RattleType) → AllSend Ts → IsSend (param i (arg τ no (TupleAt ν Ts)))
closure_send i τ ν Ts s = param_send i _ (arg_send τ no _ (declared_send (type_at ν Ts) (fields_send Ts s)))

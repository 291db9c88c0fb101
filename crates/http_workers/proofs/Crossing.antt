-- What the threads of a server share, each of them may lend to another.
use denote.RattleType.{RattleType}
use denote.Ref.{NamedLft}
use denote.Param.Send.{IsSend, IsSync, plain_send, recorded_send, recorded_sync, sendable, shr_sync, struct_send, struct_sync}
use denote.Struct.Declared.{shape}
use Rattle.std.specs.declared.sync.ledger.Ledger as ledger
use Rattle.event_book.specs.declared.naming.ListName as lists
use Rattle.engine_lock.specs.declared.opening.EngineName as names
use Rattle.std.proofs.Crossing.{crosses}
use Rattle.std.specs.contracts.net.TcpListener as TcpListener
use Rattle.std.proofs.sync.Mutex.TheSendSync as mutex
use Rattle.std.proofs.sync.atomic.AtomicBool.TheSendSync as flag
use Rattle.engine_lock.proofs.Crossing.{client_send, engine_sync}
use Rattle.http_peer.specs.contracts.door.Door as Door
use Rattle.http_workers.specs.contracts.shared.Shared as Shared
use Rattle.http_peer.proofs.door.Door.TheSendSync as door
use Rattle.http_streams.proofs.handing.Handing.TheSendSync as handing
use Rattle.http_workers.proofs.lines.Lines.TheSendSync as lines

pub shared_sync : (a : NamedLft) (T G C : RattleType) (n : names.Ghosts T.Denot) (b : lists.Ghosts T.Denot) (g : ledger.Ghosts T.Denot)
    → IsSync G → IsSync C → IsSync (Shared.the_row a T G C n b g)
shared_sync a T G C n b g s u =
    let listener : IsSync TcpListener.the_row = search (sendable, crosses) depth 20 in
    recorded_sync (Shared.the_field a T G C n b g).row _ _ (Shared.the_type a T G C n b g).to_one (struct_sync (shape (Shared.the_type a T G C n b g)) (
      shr_sync _ _ _ (engine_sync T n b g),
      (
        shr_sync _ _ _ s,
        (
          shr_sync _ _ _ u,
          (
            shr_sync _ _ _ listener,
            (mutex.the_sync Door.the_row door.the_send, (lines.the_field_sync T n b g, (handing.the_field_sync, (flag.the_field_sync, tt)))),
          ),
        ),
      ),
    ))

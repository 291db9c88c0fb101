use mathlib.Core.List.{[], ◌∷◌}
use denote.Exit.{no}
use denote.Param.{param}
use denote.Param.Send.{arg_send, param_send, shr_send}
use Rattle.std.proofs.alloc.Global.TheSendSync as heap
use Rattle.engine_lock.proofs.Crossing.{client_send, closure_send}
use Rattle.http_workers.proofs.Crossing.{shared_sync}
use Rattle.http_front.proofs.duties.Duty.TheSendSync as duty
use Rattle.http_front.proofs.threads.start.Goals as goal

-- what the thread is started with may cross to it
pub spawn-requires-send-F : goal.spawn-requires-send-F
spawn-requires-send-F g c κs _ =
    let b = c.type_bounds in
    let client = client_send (param 1 g.row.L) g.L.EngineName g.L.ListName g.L.Ledger in
    let lent = shared_sync _ (param 1 g.row.L) (param 2 g.row.G) (param 3 g.row.C) g.L.EngineName g.L.ListName g.L.Ledger b.sync-G b.sync-C in
    closure_send _ _ _ (_ ∷ _ ∷ _ ∷ _ ∷ _ ∷ []) (shr_send _ _ _ b.sync-R, (heap.the_send, (shr_send _ _ _ lent, (client, (duty.the_send, tt)))))

-- and what it hands back, from it
pub spawn-requires-send-T : goal.spawn-requires-send-T
spawn-requires-send-T g c κs _ = param_send 2 _ (arg_send _ no _ (client_send (param 1 g.row.L) g.L.EngineName g.L.ListName g.L.Ledger))

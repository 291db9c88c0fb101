use Rattle.std.proofs.Common.{sym, subst}
use Rattle.request_core.specs.State.{CoreState}
use Rattle.engine_lock.specs.Entering.{Closes}
use Rattle.engine_lock.proofs.LastEvents.{closes}
use Rattle.engine_lock.proofs.state.State.finish.Goals as goal

pub returns : goal.returns
returns g c = subst (λ (s : CoreState). Closes g.L.ListName.ids s c.args.clients.items) (sym c.finish-2.ensures) (closes g.L.ListName.ids c.self.inside.copies.core c.self.inside.listing c.take_back-returned.result.list c.args.clients.items c.audit.ensures
    c.self.invariant.0.fits.stands c.take_back-returned.ensures.list c.finish.ensures.all c.finish.ensures.made c.take_back-returned.ensures.known)

use Rattle.std.proofs.Common.{sym, subst}
use Rattle.kv_model.specs.World.{opening}
use Rattle.store_laws.specs.Stands.{StandsFor}
use Rattle.store_laws.proofs.Openings.{blank_good}
use Rattle.request_core.specs.State.{CoreState}
use Rattle.request_core.proofs.store.Core.new.Goals as goal

pub returns-clause-stands : goal.returns-clause-stands
returns-clause-stands c = subst (λ (s : CoreState). StandsFor s.store opening) (sym c.at.ensures) blank_good

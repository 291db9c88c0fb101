-- What the search comes to refuses as the clashes do.
use Rattle.std.proofs.Common.{sym}
use Rattle.kv_model.specs.Commands.{txn_view}
use Rattle.txn_core.proofs.StaticFaults.{search_allows, search_refuses}
use Rattle.txn_core.proofs.checking.check.Goals as goal

pub returns-clause-allowed : goal.returns-clause-allowed
returns-clause-allowed c = rw c.told_of_search.ensures
    (search_allows (txn_view c.args.txn.now) c.any_clash.result (sym c.in_default.ensures) c.any_clash.ensures)

pub returns-clause-refused : goal.returns-clause-refused
returns-clause-refused c = rw c.told_of_search.ensures
    (search_refuses (txn_view c.args.txn.now) c.any_clash.result (sym c.in_default.ensures) c.any_clash.ensures)

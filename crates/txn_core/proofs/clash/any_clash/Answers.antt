use Rattle.std.proofs.Common.{sym, ◌∙◌}
use Rattle.kv_model.specs.Commands.{txn_view}
use Rattle.txn_core.proofs.Alone.{none-clash}
use Rattle.txn_core.proofs.clash.any_clash.Goals as goal

pub returns-then-branch : goal.returns-then-branch
returns-then-branch c = sym (none-clash (txn_view c.args.txn.now) (sym c.in_ok-meets_nothing.ensures ∙ c.if-branch.true))

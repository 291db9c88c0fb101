use Rattle.std.proofs.Common.{sym, ◌∙◌}
use Rattle.kv_model.specs.History.{value_at}
use Rattle.lease_keys.proofs.Holding.{settled-none}
use Rattle.lease_keys.proofs.index.LeaseKeys.settle.Goals as goal

pub returns-then-is_empty : goal.returns-then-is_empty
returns-then-is_empty c = settled-none c.args.versions (value_at c.args.before.now.versions c.args.before.now.place)
    (value_at c.args.now.now.versions c.args.now.now.place) c.args.self.now (sym c.is_empty.ensures ∙ c.if-is_empty.true)

-- The pair that the version puts, and that of what its key held before.
use Rattle.std.proofs.Common.{◌∙◌, ap, subst}
use Rattle.kv_model.specs.History.{value_at}
use Rattle.lease_keys.specs.Holding.{IsUnusedDropped, lease_held}
use Rattle.lease_keys.proofs.Holding.{settled-one}
use Rattle.lease_keys.proofs.index.LeaseKeys.settle_one.Goals as goal

pub returns : goal.returns
returns c =
    let v = c.args.version.now in
    let before = value_at c.args.before.now.versions c.args.before.now.place in
    let now = value_at c.args.now.now.versions c.args.now.now.place in
    settled-one v before now c.args.self.now c.drop_unused.new.self c.drop_unused-2.new.self
    (subst (λ o. IsUnusedDropped o v.key now c.args.self.now c.drop_unused.new.self) c.lease_of.ensures c.drop_unused.ensures)
    (subst (λ o. IsUnusedDropped o v.key now c.drop_unused.new.self c.drop_unused-2.new.self)
    (c.lease_held.ensures ∙ ap lease_held c.get.ensures) c.drop_unused-2.ensures)

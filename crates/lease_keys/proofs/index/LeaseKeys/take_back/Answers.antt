use Rattle.std.proofs.Common.{◌∷◌, subst}
use Rattle.kv_model.specs.History.{value_at}
use Rattle.lease_keys.specs.Holding.{IsUnusedDropped}
use Rattle.lease_keys.proofs.Holding.{TakesOn, taken-on}
use Rattle.lease_keys.proofs.index.LeaseKeys.take_back.Goals as goal

pub loop-version-preserved : goal.loop-version-preserved
loop-version-preserved c =
    let at = c.loop-version in
    let v = c.in-Some.version.now in
    let rest = c.next.new.self in
    let all = c.args.versions in
    let start = c.args.self.now in
    let held = value_at c.args.before.now.versions c.args.before.now.place in
    taken-on v rest all held start at.self c.drop_unused.new.self
    (subst (λ vs. TakesOn vs all held start at.self) c.in-Some.ensures at.invariant)
    (subst (λ o. IsUnusedDropped o v.key held at.self c.drop_unused.new.self) c.lease_of.ensures c.drop_unused.ensures)

use Rattle.std.proofs.Common.{◌∷◌, subst}
use Rattle.kv_model.specs.History.{value_at}
use Rattle.lease_keys.proofs.Holding.{SettlesOn, settled-on}
use Rattle.lease_keys.proofs.index.LeaseKeys.settle_all.Goals as goal

pub loop-version-preserved : goal.loop-version-preserved
loop-version-preserved c =
    let at = c.loop-version in
    let v = c.in-Some.version.now in
    let rest = c.next.new.self in
    let all = c.args.versions in
    let start = c.args.self.now in
    let before = value_at c.args.before.now.versions c.args.before.now.place in
    let now = value_at c.args.now.now.versions c.args.now.now.place in
    settled-on v rest all before now start at.self c.settle_one.new.self
    (subst (λ vs. SettlesOn vs all before now start at.self) c.in-Some.ensures at.invariant) c.settle_one.ensures

use Rattle.std.proofs.Common.{rules, ◌≡◌, ◌∷◌, fold, ap, ◌∙◌}
use Rattle.store_laws.specs.Snapshots.{absorb}
use Rattle.snapshot_feed.proofs.Logs.{goes_back, takes_one}
use Rattle.snapshot_feed.proofs.ops.Ops.level.Goals as goal

pub loop-self-init : goal.loop-self-init
loop-self-init c = ap (fold absorb c.args.tables.now) c.self.view_is

pub returns-then-is_err-clause-level : goal.returns-then-is_err-clause-level
returns-then-is_err-clause-level c =
    let cut : c.loop-self.self-inside.list.items ≡ c.unwrap-op.result ∷ c.pop_front.new.self.items = search rules in
    goes_back c.loop-self.tables c.take_in.new.tables c.unwrap-op.result c.pop_front.new.self.items c.loop-self.self-inside.list.items
    c.push_front_reserved.new.self.items cut (search rules) c.push_front_reserved.ensures.items ∙ c.loop-self.invariant

pub loop-self-preserved : goal.loop-self-preserved
loop-self-preserved c =
    let cut : c.loop-self.self-inside.list.items ≡ c.unwrap-op.result ∷ c.pop_front.new.self.items = search rules in
    takes_one c.loop-self.tables c.take_in.new.tables c.unwrap-op.result c.pop_front.new.self.items c.loop-self.self-inside.list.items
    cut (search rules) ∙ c.loop-self.invariant

use Rattle.watch_streams.specs.Turns.{Goes, Turned}
use Rattle.watch_streams.proofs.Exact.{exact_of, goes_is, turned_is}
use Rattle.watch_streams.proofs.turning.take_turn.Goals as goal

pub loop-init : goal.loop-init
loop-init g c = Goes.stays

pub loop-preserved : goal.loop-preserved
loop-preserved g c = Goes.more c.loop.invariant c.in_default.ensures

pub returns-in-Some-clause-turned : goal.returns-in-Some-clause-turned
returns-in-Some-clause-turned g c = Turned.last c.loop.invariant c.in-Some.ensures

pub returns-in-Some-clause-exact : goal.returns-in-Some-clause-exact
returns-in-Some-clause-exact g c = λ k. exact_of _ _ _ _ _ k (turned_is _ _ _ _ _ _ (Turned.last c.loop.invariant c.in-Some.ensures))

pub returns-clause-turned : goal.returns-clause-turned
returns-clause-turned g c = Turned.on c.loop.invariant

pub returns-clause-exact : goal.returns-clause-exact
returns-clause-exact g c = λ _. goes_is _ _ _ _ _ c.loop.invariant

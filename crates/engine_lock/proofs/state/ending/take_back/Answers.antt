use Rattle.std.proofs.Common.{All, ap, rules, sym, subst, ◌∙◌}
use Rattle.std.proofs.lemmas.List.{map-id}
use Rattle.std.proofs.lemmas.Iterator.Adapters.{YieldsList-from_vec}
use Rattle.std.proofs.lemmas.Iterator.Consumers.{YieldsList-end}
use Rattle.engine_lock.specs.Locked.{Caller}
use Rattle.engine_lock.proofs.LastEvents.{Known, back_more}
use Rattle.engine_lock.proofs.state.ending.take_back.Goals as goal

pub loop-client-preserved : goal.loop-client-preserved
loop-client-preserved g c = back_more c.args.listing.now c.loop-client.returned c.add.new.self c.returned-returned.result.holders c.loop-client.yielded
    c.in-Some.client c.client.inside.holder (ap (λ (x : Caller). x.holder) c.client.view_is) c.loop-client.invariant c.add.ensures.list c.add.ensures.owns
    (subst (Known c.args.listing.now) c.client.view_is (c.knows.ensures c.sure.ensures))

pub returns-clause-known : goal.returns-clause-known
returns-clause-known g c = subst (All (Known c.args.listing.now))
    (sym (map-id c.loop-client.yielded) ∙ (YieldsList-end (YieldsList-from_vec c.args.clients.items (search rules) (search rules)) c.loop-client.yielded c.loop-client.client-iterator c.loop-client.yielded_by
    c.next.result c.next.new.self c.in-None.is c.next.ensures.steps).0) c.loop-client.invariant.3

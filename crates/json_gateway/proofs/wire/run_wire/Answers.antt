use Rattle.std.proofs.Common.{◌≡◌, ◌+◌, List, [], ◌∷◌, ◌++◌, true, is_ok, vec_len, map, drop, sym, ap, subst, arith}
use Rattle.json_gateway.specs.declared.wire.WireOutcome.{WireOutcome}
use Rattle.std.specs.List.{AllByRecursion}
use Rattle.store_laws.proofs.PlaceLaws.{each-append}
use Rattle.json_gateway.specs.Runs.{IsBareIn, event_view, outcome_view}
use Rattle.json_gateway.proofs.Events.{RunsOn, run_end, run_more, run_start}
use Rattle.json_gateway.proofs.wire.run_wire.Goals as goal

pub loop-event-init : goal.loop-event-init
loop-event-init c =
    let es = map event_view c.args.events.now in
    record {
      room = omega (arith, c.in_ok-outcomes.ensures.capacity);
      count = c.in_ok-outcomes.ensures.len;
      run = subst (λ (os : List WireOutcome). RunsOn c.args.ids.now es (map outcome_view os) es c.new-core.result)
          (sym c.in_ok-outcomes.ensures.items) (run_start c.args.ids.now es c.new-core.result c.new-core.ensures.stands);
      bare = subst (AllByRecursion IsBareIn) (sym c.in_ok-outcomes.ensures.items) tt;
    }

pub loop-event-preserved : goal.loop-event-preserved
loop-event-preserved c =
    let pushed : is_ok c.push.result ≡ true = ap is_ok c.unwrap.ensures in
    let items : c.push.new.self.items ≡ c.loop-event.outcomes.items ++ c.step-outcome.result ∷ [] = rw pushed at c.push.ensures.items in
    record {
      room = omega (arith, c.push.ensures.capacity, c.loop-event.invariant.room);
      count = let long : vec_len c.push.new.self ≡ vec_len c.loop-event.outcomes + 1 = rw pushed at c.push.ensures.len in omega (arith, long, c.loop-event.invariant.count);
      run = subst (λ (os : List WireOutcome). RunsOn c.args.ids.now (map event_view c.args.events.now) (map outcome_view os) (map event_view (drop (c.loop-event.event-index + 1) c.args.events.now)) c.step-outcome.new.core)
          (sym items) (run_more c.args.ids.now (map event_view c.args.events.now) c.args.events.now c.loop-event.outcomes.items c.loop-event.event-index _ c.step-outcome.result
          c.loop-event.core c.step-outcome.new.core c.loop-event-test.true c.loop-event.invariant.run c.step-outcome.ensures.steps);
      bare = subst (AllByRecursion IsBareIn) (sym items)
          (each-append IsBareIn c.loop-event.outcomes.items (c.step-outcome.result ∷ []) c.loop-event.invariant.bare (c.step-outcome.ensures.bare, tt));
    }

pub returns-clause-run : goal.returns-clause-run
returns-clause-run c = run_end c.args.ids.now (map event_view c.args.events.now) c.args.events.now (map outcome_view c.loop-event.outcomes.items) c.loop-event.event-index c.loop-event.core
    c.loop-event-test.false c.loop-event.invariant.run

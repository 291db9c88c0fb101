use Rattle.std.proofs.Common.{ℕ, List, ◌++◌, map, drop, sym, ap, ◌∙◌, append_assoc}
use Rattle.std.proofs.lemmas.List.{at_drop_more}
use Rattle.json_gateway.specs.Runs.{event_view}
use Rattle.commands.specs.Said.{outcomes_from, replies_said, texts_from}
use Rattle.commands.proofs.Fronts.{both_written, failed, later_front}
use Rattle.commands.proofs.Writing.{first_reply}
use Rattle.commands.proofs.replies.write_replies.Goals as goal

pub returns-in_err-place : goal.returns-in_err-place
returns-in_err-place g c =
    let (front, written, left) = rw (← c.deref.ensures.value, ← c.deref-is_event-items.ensures.value) at c.loop-is_event.invariant in
    let es = map event_view (drop c.loop-is_event.place.event c.deref.result.now) in
    let os = outcomes_from c.args.said.now c.loop-is_event.place in
    let ts = texts_from c.args.said.now c.loop-is_event.place in
    let (rest, split) = first_reply _ _ es os ts in
    let more = at_drop_more (λ flags. replies_said flags es os ts) _ _ _ c.loop-is_event-test.true in
    rw (← c.deref.ensures.value, ← c.deref-is_event-items.ensures.value) (failed _ _ _ _ c.from_residual.ensures.0
    (later_front _ _ _ _ front _ rest (left ∙ ap (λ (t : List ℕ). front ++ t) (more ∙ split)) written c.in_err-place.ensures.written))

pub loop-is_event-preserved : goal.loop-is_event-preserved
loop-is_event-preserved g c =
    let (front, written, left) = rw (← c.deref.ensures.value, ← c.deref-is_event-items.ensures.value) at c.loop-is_event.invariant in
    let es = map event_view (drop c.loop-is_event.place.event c.deref.result.now) in
    let os = outcomes_from c.args.said.now c.loop-is_event.place in
    let ts = texts_from c.args.said.now c.loop-is_event.place in
    let more = at_drop_more (λ flags. replies_said flags es os ts) _ _ _ c.loop-is_event-test.true in
    rw (← c.deref.ensures.value, ← c.deref-is_event-items.ensures.value) (
      _,
      both_written _ _ _ front _ written c.in_ok-place.ensures.written,
      left ∙ ap (λ (t : List ℕ). front ++ t) (more ∙ c.in_ok-place.ensures.next _) ∙ sym (append_assoc front _ _),
    )

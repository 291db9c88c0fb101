-- All differ where the first that does not come before the operand is none of the part.
use Rattle.std.proofs.Common.{◌≡◌, ◌<◌, ◌≤◌, ◌∙◌, ap, length, refl, sym, not, Some}
use Rattle.std.proofs.lemmas.Bool.{ltb-true, ltb-false}
use Rattle.std.proofs.lemmas.Option.{slice_get_past, slice_get_read}
use Rattle.std.specs.List.{slice_get}
use Rattle.live_keys.specs.Orders.{is_found}
use Rattle.live_keys.proofs.Places.{differ-found}
use Rattle.live_keys.proofs.order.all_differ.Goals as goal

pub returns-in-Some : goal.returns-in-Some
returns-in-Some c = λ kvs h.
    let o = c.args.operand.now in
    let ps = c.args.placed.now in
    let to = c.args.part.to in
    let inside : c.count_before-count.result < length ps = ltb-true c.count_before-count.result (length ps) (sym c.in-Some.ensures.lookup.0) in
    let at : slice_get ps c.count_before-count.result ≡ Some c.in-Some.one.now
    = slice_get_read ps (length ps) c.count_before-count.result c.in-Some.one.now refl inside c.in-Some.ensures.lookup.1 in
    ap not (c.is_there.ensures ∙ sym (ap (is_found o to) at))
    ∙ ap (λ n. not (is_found o to (slice_get ps n))) (c.count_before-count.ensures h.rises)
    ∙ differ-found o c.args.part.from to kvs ps h

pub returns-in-None : goal.returns-in-None
returns-in-None c = λ kvs h.
    let o = c.args.operand.now in
    let ps = c.args.placed.now in
    let to = c.args.part.to in
    let past : length ps ≤ c.count_before-count.result = ltb-false c.count_before-count.result (length ps) (sym c.in-None.ensures.lookup.0) in
    sym (ap (λ f. not (is_found o to f)) (slice_get_past ps c.count_before-count.result past))
    ∙ ap (λ n. not (is_found o to (slice_get ps n))) (c.count_before-count.ensures h.rises)
    ∙ differ-found o c.args.part.from to kvs ps h

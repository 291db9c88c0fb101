-- It stands behind those that are not above it, or where that is behind the first few it is left out.
use Rattle.std.proofs.Common.{◌≡◌, ◌≤◌, ◌∙◌, ap, length, not, rules, sym, true}
use Rattle.std.specs.Ordering.{is_gt}
use Rattle.kv_model.specs.Ranges.{sorted_by}
use Rattle.store_laws.specs.Rising.{count_while}
use Rattle.shown_ranges.specs.Best.{asked_cmp}
use Rattle.shown_ranges.specs.Shown.{beyond, is_enough}
use Rattle.shown_ranges.proofs.FirstFew.{full-kept, put-few}
use Rattle.shown_ranges.proofs.best.put_in_order.Goals as goal

pub returns-then-is_enough : goal.returns-then-is_enough
returns-then-is_enough c = λ seen e.
    let q = c.args.query.now in
    let few = c.args.few.now.items in
    let kv = c.args.kv.now in
    let place : c.place_in-place.result ≡ count_while (λ one. not (is_gt (asked_cmp q one kv))) few
    = c.place_in-place.ensures.count seen (c.deref.ensures.value ∙ e) ∙ ap (count_while (λ one. not (is_gt (asked_cmp q one kv)))) c.deref.ensures.value in
    let bound : c.place_in-place.result ≤ length few = search rules in
    let enough : is_enough q.limit c.place_in-place.result ≡ true = sym c.is_enough.ensures ∙ c.if-is_enough.true in
    full-kept q.limit few (sorted_by (asked_cmp q) seen) kv c.place_in-place.result e bound enough
    ∙ put-few q seen few kv c.place_in-place.result e place

pub returns : goal.returns
returns c = λ seen e.
    let q = c.args.query.now in
    let few = c.args.few.now.items in
    let kv = c.args.kv.now in
    let place : c.place_in-place.result ≡ count_while (λ one. not (is_gt (asked_cmp q one kv))) few
    = c.place_in-place.ensures.count seen (c.deref.ensures.value ∙ e) ∙ ap (count_while (λ one. not (is_gt (asked_cmp q one kv)))) c.deref.ensures.value in
    c.cut_beyond.ensures ∙ ap (beyond q.limit) c.in_ok-insert.ensures.items ∙ put-few q seen few kv c.place_in-place.result e place

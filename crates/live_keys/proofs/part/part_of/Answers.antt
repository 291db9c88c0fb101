-- The part of a range is cut where its keys begin and end.
use Rattle.std.proofs.Common.{◌≡◌, ◌∙◌, ap, arith, drop, length, map, ℕ, List, subst, sym}
use Rattle.kv_model.specs.History.{KeyValue}
use Rattle.kv_model.specs.Keys.{in_range, key_le, key_lt}
use Rattle.kv_model.specs.Spans.{is_within}
use Rattle.store_laws.specs.Rising.{count_while}
use Rattle.range_view.specs.Replies.{kv_view}
use Rattle.live_keys.specs.Exchanging.{Stands}
use Rattle.live_keys.specs.Parts.{of_part}
use Rattle.live_keys.proofs.Counted.{part-all, part-from, part-interval}
use Rattle.live_keys.proofs.Neighbours.{between-all, map-length}
use Rattle.live_keys.proofs.Standing.{part-one, stands-all, stands-from, stands-interval, stands-one}
use Rattle.live_keys.proofs.part.part_of.Goals as goal

pub returns-in-Key-clause-exact : goal.returns-in-Key-clause-exact
returns-in-Key-clause-exact c = λ up.
    let kvs : List KeyValue = map kv_view c.args.kvs.now in
    let key : List ℕ = c.in-Key.key.now in
    ap (λ p. of_part p kvs) c.interval.ensures
    ∙ part-one c.args.range.now key kvs c.place_of.result c.place_behind.result up
    (subst (λ s. (k : List ℕ) → is_within s k ≡ in_range c.args.range.now k) c.in-Key.is c.span.ensures)
    (c.place_of.ensures.count up ∙ ap (λ k. count_while (λ kv. key_lt kv.key k) kvs) c.as_slice.ensures)
    (c.place_behind.ensures.count up ∙ ap (λ k. count_while (λ kv. key_le kv.key k) kvs) c.as_slice-in-Key.ensures)

pub returns-in-Key-clause-stands : goal.returns-in-Key-clause-stands
returns-in-Key-clause-stands c = λ up.
    let kvs : List KeyValue = map kv_view c.args.kvs.now in
    let key : List ℕ = c.in-Key.key.now in
    subst (λ p. Stands c.args.range.now p kvs) (sym c.interval.ensures)
    (stands-one c.args.range.now key kvs c.place_of.result c.place_behind.result up
    (subst (λ s. (k : List ℕ) → is_within s k ≡ in_range c.args.range.now k) c.in-Key.is c.span.ensures)
    (c.place_of.ensures.count up ∙ ap (λ k. count_while (λ kv. key_lt kv.key k) kvs) c.as_slice.ensures)
    (c.place_behind.ensures.count up ∙ ap (λ k. count_while (λ kv. key_le kv.key k) kvs) c.as_slice-in-Key.ensures))

pub returns-in-All-clause-exact : goal.returns-in-All-clause-exact
returns-in-All-clause-exact c = λ up.
    let kvs : List KeyValue = map kv_view c.args.kvs.now in
    let same : length kvs ≡ length c.args.kvs.now = map-length kv_view c.args.kvs.now in
    between-all (length c.args.kvs.now) kvs (omega (arith, same))
    ∙ part-all c.args.range.now kvs (subst (λ s. (k : List ℕ) → is_within s k ≡ in_range c.args.range.now k) c.in-All.is c.span.ensures)

pub returns-in-All-clause-stands : goal.returns-in-All-clause-stands
returns-in-All-clause-stands c = λ up.
    let kvs : List KeyValue = map kv_view c.args.kvs.now in
    let same : length kvs ≡ length c.args.kvs.now = map-length kv_view c.args.kvs.now in
    stands-all c.args.range.now kvs (length c.args.kvs.now) (omega (arith, same))

pub returns-in-From-clause-exact : goal.returns-in-From-clause-exact
returns-in-From-clause-exact c = λ up.
    let kvs : List KeyValue = map kv_view c.args.kvs.now in
    let same : length kvs ≡ length c.args.kvs.now = map-length kv_view c.args.kvs.now in
    let from : List ℕ = c.in-From.from.now in
    let count : c.place_of-in-From.result ≡ count_while (λ kv. key_lt kv.key from) kvs
    = c.place_of-in-From.ensures.count up ∙ ap (λ k. count_while (λ kv. key_lt kv.key k) kvs) c.as_slice-in-From.ensures in
    (λ i. drop (count i) (between-all (length c.args.kvs.now) kvs (omega (arith, same)) i))
    ∙ part-from c.args.range.now from kvs up (subst (λ s. (k : List ℕ) → is_within s k ≡ in_range c.args.range.now k) c.in-From.is c.span.ensures)

pub returns-in-From-clause-stands : goal.returns-in-From-clause-stands
returns-in-From-clause-stands c = λ up.
    let kvs : List KeyValue = map kv_view c.args.kvs.now in
    let same : length kvs ≡ length c.args.kvs.now = map-length kv_view c.args.kvs.now in
    let from : List ℕ = c.in-From.from.now in
    let count : c.place_of-in-From.result ≡ count_while (λ kv. key_lt kv.key from) kvs
    = c.place_of-in-From.ensures.count up ∙ ap (λ k. count_while (λ kv. key_lt kv.key k) kvs) c.as_slice-in-From.ensures in
    stands-from c.args.range.now from kvs c.place_of-in-From.result (length c.args.kvs.now)
    (subst (λ s. (k : List ℕ) → is_within s k ≡ in_range c.args.range.now k) c.in-From.is c.span.ensures) count (omega (arith, same))

pub returns-in-Interval-clause-exact : goal.returns-in-Interval-clause-exact
returns-in-Interval-clause-exact c = λ up.
    let kvs : List KeyValue = map kv_view c.args.kvs.now in
    let from : List ℕ = c.in-Interval.from.now in
    let to : List ℕ = c.in-Interval.to.now in
    ap (λ p. of_part p kvs) c.interval-in-Interval.ensures
    ∙ part-interval c.args.range.now from to kvs c.place_of-in-Interval.result c.place_of-in-Interval-2.result up
    (subst (λ s. (k : List ℕ) → is_within s k ≡ in_range c.args.range.now k) c.in-Interval.is c.span.ensures)
    (c.place_of-in-Interval.ensures.count up ∙ ap (λ k. count_while (λ kv. key_lt kv.key k) kvs) c.as_slice-in-Interval.ensures)
    (c.place_of-in-Interval-2.ensures.count up ∙ ap (λ k. count_while (λ kv. key_lt kv.key k) kvs) c.as_slice-in-Interval-2.ensures)

pub returns-in-Interval-clause-stands : goal.returns-in-Interval-clause-stands
returns-in-Interval-clause-stands c = λ up.
    let kvs : List KeyValue = map kv_view c.args.kvs.now in
    let from : List ℕ = c.in-Interval.from.now in
    let to : List ℕ = c.in-Interval.to.now in
    subst (λ p. Stands c.args.range.now p kvs) (sym c.interval-in-Interval.ensures)
    (stands-interval c.args.range.now from to kvs c.place_of-in-Interval.result c.place_of-in-Interval-2.result up
    (subst (λ s. (k : List ℕ) → is_within s k ≡ in_range c.args.range.now k) c.in-Interval.is c.span.ensures)
    (c.place_of-in-Interval.ensures.count up ∙ ap (λ k. count_while (λ kv. key_lt kv.key k) kvs) c.as_slice-in-Interval.ensures)
    (c.place_of-in-Interval-2.ensures.count up ∙ ap (λ k. count_while (λ kv. key_lt kv.key k) kvs) c.as_slice-in-Interval-2.ensures))

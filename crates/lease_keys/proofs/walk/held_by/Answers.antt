-- Each key that holds something put under the lease is taken, and no other.
use Rattle.std.proofs.Common.{◌≡◌, ◌∙◌, ap, sym, add-one, map, take, filter_map, None, Some, ◌++◌, [], List, ◌∷◌, ℕ, to_z, of_z}
use Rattle.std.specs.Prelude.{option_map, Option}
use Rattle.std.specs.Int.{w64}
use Rattle.std.proofs.lemmas.List.{append-nil, map-append}
use Rattle.kv_model.specs.History.{KeyValue, value_at}
use Rattle.range_view.specs.Replies.{kv_view}
use Rattle.range_view.proofs.Walking.{walked-more}
use Rattle.lease_keys.specs.Holding.{under}
use Rattle.lease_keys.proofs.walk.held_by.Goals as goal
use Rattle.lease_keys.proofs.walk.held_by.Goals.{in-Some+in_ok-push-in-Some, in-None}

pub loop-key-preserved : goal.loop-key-preserved
loop-key-preserved c =
    let reads : List ℕ → Option KeyValue = λ k. under (to_z w64 (of_z w64 c.args.lease))
    (value_at c.args.view.now.versions c.args.view.now.place k) in
    let before : List KeyValue = filter_map reads (map (λ k. k.now) (take c.loop-key.key-index c.args.keys.now)) in
    let more = λ (o : Option KeyValue) (e : option_map kv_view c.held.result ≡ o).
    walked-more reads (λ k. k.now) c.args.keys.now c.loop-key.key-index c.key-item.result o c.loop-key-test.true
    (ap (λ x. reads x.now) (sym c.key-item.is) ∙ sym c.held.ensures ∙ e) in
    rw add-one (elim c.match-held.branch [
      | in-Some+in_ok-push-in-Some w ↦ rw (w.kvs-is, more (Some (kv_view w.in-Some.kv)) (ap (option_map kv_view) w.in-Some.is))
          (ap (map kv_view) w.in_ok-push-in-Some.ensures.items ∙ map-append kv_view c.loop-key.kvs.items (w.in-Some.kv ∷ [])
          ∙ ap (λ (xs : List KeyValue). xs ++ kv_view w.in-Some.kv ∷ []) c.loop-key.invariant)
      | in-None w ↦ rw (w.kvs-is, more None (ap (option_map kv_view) w.in-None.is), append-nil before) c.loop-key.invariant
    ])

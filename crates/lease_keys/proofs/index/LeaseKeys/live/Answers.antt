-- The keys that the index has for the lease are enough.
use Rattle.std.proofs.Common.{◌≡◌, ℕ, List, ◌∙◌, ap, subst, map, filter_map, IfOk, true, rules}
use Rattle.std.proofs.lemmas.Int.{to_z-of_z}
use Rattle.std.specs.Int.{w64}
use Rattle.kv_model.specs.History.{value_at}
use Rattle.range_view.specs.Replies.{kv_view}
use Rattle.lease_keys.specs.Holding.{under, is_lease}
use Rattle.lease_keys.proofs.Live.{live-found}
use Rattle.lease_keys.proofs.index.LeaseKeys.live.Goals as goal

pub returns : goal.returns
returns c =
    let v = c.args.view.now in
    let g : List ℕ → _ = λ k. under c.args.lease (value_at v.versions v.place k) in
    let held = rw (to_z-of_z w64 c.args.lease c.ranges.lease) at c.held_by.ensures in
    let keys = rw (to_z-of_z w64 c.args.lease c.ranges.lease) at c.in_ok-keys.ensures.keys in
    let up = rw (to_z-of_z w64 c.args.lease c.ranges.lease) at c.keys_of.ensures.ascending in
    let some : is_lease c.args.lease ≡ true = search rules in
    let found = ap (filter_map g) (ap (map (λ k. k.now)) c.deref.ensures.value ∙ keys)
    ∙ live-found c.args.lease c.args.self.now v.versions v.place c.requires some up in
    subst (λ kvs. IfOk c.held_by.result (λ r. map kv_view r.items ≡ kvs)) found held

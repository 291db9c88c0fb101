use Rattle.std.proofs.Common.{◌+◌, ◌≤◌, ◌^◌, ◌∙◌, ap, length, rules}
use Rattle.std.proofs.lemmas.Int.{to_z-of_z}
use Rattle.std.specs.Int.{w64}
use Rattle.request_core.specs.State.{leased_in}
use Rattle.request_core.proofs.Kept.{some-tombstones-next, tombstones-length}
use Rattle.request_core.proofs.store.Core.revoke.Goals as goal

pub append_any-requires-clause-next : goal.append_any-requires-clause-next
append_any-requires-clause-next g c = λ some.
    let s = c.args.self.now.store in
    let made = rw (to_z-of_z w64 c.args.id c.ranges.id) at c.in-Ok.ensures.made in
    let few : c.len-deleted.result ≤ 2 ^ 64 = search rules in
    let counted = c.len-deleted.ensures ∙ c.in-Ok.versions.ok.0 ∙ ap length made.1 ∙ tombstones-length (s.revision + 1) 0 (leased_in s c.args.id) in
    some-tombstones-next s.revision c.len-deleted.result (leased_in s c.args.id) c.in-Ok.versions.items
    (record { made = made.1; counted = counted; few = few }) some

pub returns-clause-counted : goal.returns-clause-counted
returns-clause-counted g c =
    let s = c.args.self.now.store in
    let made = rw (to_z-of_z w64 c.args.id c.ranges.id) at c.in-Ok.ensures.made in
    c.len-deleted.ensures ∙ c.in-Ok.versions.ok.0 ∙ ap length made.1 ∙ tombstones-length (s.revision + 1) 0 (leased_in s c.args.id)

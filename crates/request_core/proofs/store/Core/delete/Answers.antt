use Rattle.std.proofs.Common.{◌+◌, ◌≤◌, ◌^◌, ◌∙◌, ap, length, rules}
use Rattle.request_core.specs.State.{live_in}
use Rattle.request_core.proofs.Kept.{some-tombstones-next, tombstones-length}
use Rattle.request_core.proofs.store.Core.delete.Goals as goal

pub append_any-requires-clause-next : goal.append_any-requires-clause-next
append_any-requires-clause-next g c = λ some.
    let s = c.args.self.now.store in
    let kvs = live_in s c.args.request.now.range in
    let counted = c.len-deleted.ensures ∙ c.in-Ok.versions.ok.0 ∙ ap length c.in-Ok.ensures.made.1 ∙ tombstones-length (s.revision + 1) 0 kvs in
    let few : c.len-deleted.result ≤ 2 ^ 64 = search rules in
    some-tombstones-next s.revision c.len-deleted.result kvs c.in-Ok.versions.items
    (record { made = c.in-Ok.ensures.made.1; counted = counted; few = few }) some

pub returns-clause-counted : goal.returns-clause-counted
returns-clause-counted g c =
    let s = c.args.self.now.store in
    c.len-deleted.ensures ∙ c.in-Ok.versions.ok.0 ∙ ap length c.in-Ok.ensures.made.1
    ∙ tombstones-length (s.revision + 1) 0 (live_in s c.args.request.now.range)

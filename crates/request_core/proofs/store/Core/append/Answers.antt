-- The watches take note of what was appended.
use Rattle.std.proofs.Common.{◌≡◌, ◌+◌, sym, ◌∙◌, ap}
use Rattle.request_core.specs.State.{CoreState, noted_above, with_unnoted}
use Rattle.request_core.proofs.Kept.{noted-behind}
use Rattle.request_core.proofs.store.Core.append.Goals as goal

pub note_above-requires : goal.note_above-requires
note_above-requires g c =
    let unnoted : c.append_unnoted.new.self ≡ with_unnoted c.args.self.now c.args.versions.items = c.in-Ok.ensures.ok in
    ap (λ n. n + 1) c.revision-before.ensures.value ∙ sym (ap (λ (s : CoreState). s.store.revision) unnoted)

pub returns-in-Ok-clause-ok : goal.returns-in-Ok-clause-ok
returns-in-Ok-clause-ok g c =
    let unnoted : c.append_unnoted.new.self ≡ with_unnoted c.args.self.now c.args.versions.items = c.in-Ok.ensures.ok in
    c.note_above.ensures ∙ (λ i. noted_above (c.revision-before.ensures.value i) (unnoted i))
    ∙ noted-behind c.args.self.now c.args.versions.items c.revision-before.ensures.upto c.requires.next

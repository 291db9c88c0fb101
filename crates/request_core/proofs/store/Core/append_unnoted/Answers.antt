use Rattle.std.proofs.Common.{◌≡◌, ◌+◌, ◌<◌, sym, ◌∙◌, ap, subst}
use Rattle.kv_model.specs.History.{value_now}
use Rattle.kv_model.specs.Step.{last_main}
use Rattle.lease_keys.specs.Holding.{AreJust}
use Rattle.range_view.specs.Stored.{Stored, appended, retracted_to}
use Rattle.range_view.proofs.Growing.{retracted_to-appended}
use Rattle.request_core.specs.Writing.{AreNext}
use Rattle.request_core.specs.State.{CoreState, IsSound, core_state, with_unnoted}
use Rattle.request_core.proofs.Kept.{sound-appended, grown-state}
use Rattle.request_core.proofs.Indexed.{IsGrown, settled-grown, taken-grown}
use Rattle.request_core.proofs.store.Core.append_unnoted.Goals as goal

pub invariant_of-self-in-Err : goal.invariant_of-self-in-Err
invariant_of-self-in-Err g c =
    let t = c.self.inside.tables in
    let vs = c.args.versions.items in
    let grew : c.append.new.self ≡ appended t vs = c.in_ok-append.ensures.ok ∙ ap (appended t) c.deref.ensures.value in
    let next = subst (λ r. AreNext r vs) (sym (ap (λ (s : CoreState). s.store.revision) c.self.view_is)) c.requires.next in
    let back = c.retract.ensures ∙ ap (retracted_to (c.revision-main.result + 1)) grew
    ∙ ap (λ n. retracted_to (n + 1) (appended t vs)) c.revision-main.ensures.value ∙ retracted_to-appended t vs c.revision-main.ensures.stored next.next in
    let grown : IsGrown t vs c.self.inside.keys (value_now t.versions) = record {
      stored = c.revision-main.ensures.stored;
      sound = c.self.invariant.0;
      next = next;
      just = c.self.invariant.1;
    } in (
      subst IsSound (sym back) c.self.invariant.0,
      subst (λ (u : Stored). AreJust c.take_back.new.keys (value_now u.versions)) (sym back)
          (taken-grown t vs c.append.new.self c.self.inside.keys c.take_newest.new.keys c.take_back.new.keys grown
          grew c.in-Err.ensures.err.0 c.take_back.ensures),
    )

pub returns-in-Err-clause-err : goal.returns-in-Err-clause-err
returns-in-Err-clause-err g c =
    let t = c.self.inside.tables in
    let vs = c.args.versions.items in
    let grew : c.append.new.self ≡ appended t vs = c.in_ok-append.ensures.ok ∙ ap (appended t) c.deref.ensures.value in
    let next = subst (λ r. AreNext r vs) (sym (ap (λ (s : CoreState). s.store.revision) c.self.view_is)) c.requires.next in
    let back = c.retract.ensures ∙ ap (retracted_to (c.revision-main.result + 1)) grew
    ∙ ap (λ n. retracted_to (n + 1) (appended t vs)) c.revision-main.ensures.value ∙ retracted_to-appended t vs c.revision-main.ensures.stored next.next in
    (ap (λ (u : Stored). core_state u c.self.inside.book c.self.inside.hub c.self.inside.stamp) back ∙ c.self.view_is, c.in-Err.ensures.err.1)

pub invariant_of-self-2 : goal.invariant_of-self-2
invariant_of-self-2 g c =
    let t = c.self.inside.tables in
    let vs = c.args.versions.items in
    let grew : c.append.new.self ≡ appended t vs = c.in_ok-append.ensures.ok ∙ ap (appended t) c.deref.ensures.value in
    let same = ap (λ (s : CoreState). s.store.revision) c.self.view_is in
    let next = subst (λ r. AreNext r vs) (sym same) c.requires.next in
    let room = subst (λ r. r < last_main) (sym same) c.requires.room in
    let grown : IsGrown t vs c.self.inside.keys (value_now t.versions) = record {
      stored = c.revision-main.ensures.stored;
      sound = c.self.invariant.0;
      next = next;
      just = c.self.invariant.1;
    } in (
      subst IsSound (sym grew) (sound-appended t vs c.self.invariant.0 room next),
      settled-grown t vs c.append.new.self c.self.inside.keys c.take_newest.new.keys c.settle.new.keys grown room
          grew c.settle.ensures.stored c.in_default.ensures.ok c.settle.ensures.settled,
    )

pub returns-clause-ok : goal.returns-clause-ok
returns-clause-ok g c =
    let t = c.self.inside.tables in
    let vs = c.args.versions.items in
    let grew : c.append.new.self ≡ appended t vs = c.in_ok-append.ensures.ok ∙ ap (appended t) c.deref.ensures.value in
    let next = subst (λ r. AreNext r vs) (sym (ap (λ (s : CoreState). s.store.revision) c.self.view_is)) c.requires.next in
    ap (λ (u : Stored). core_state u c.self.inside.book c.self.inside.hub c.self.inside.stamp) grew
    ∙ grown-state t c.self.inside.book c.self.inside.hub vs c.self.inside.stamp next ∙ ap (λ (s : CoreState). with_unnoted s vs) c.self.view_is

use Rattle.std.proofs.Common.{◌≡◌, ◌+◌, refl, ◌∙◌, ap, subst, arith}
use Rattle.watch_hub.specs.Guards.{ArePast, AreToCome}
use Rattle.watch_hub.specs.Entries.{seen_in, tracked_of}
use Rattle.std.proofs.Common.{Option, option_map, [], ◌∷◌}
use Rattle.store_laws.specs.Stands.{noted}
use Rattle.watch_hub.specs.declared.entry.Entry.{Entry}
use Rattle.watch_hub.proofs.Noted.{noting-begins, noting-passes, noting-goes, noting-ends}
use Rattle.watch_hub.proofs.noting.note_key.Goals as goal

pub loop-index-init : goal.loop-index-init
loop-index-init c =
    let gs = c.args.guards.now in
    let v = c.args.version.now in
    let left = c.count_begun-left.result in
    let behind : AreToCome gs v.key left = subst (λ k. AreToCome gs k left) c.as_slice-key.ensures c.count_begun-left.ensures.behind in
    (c.count_begun-left.ensures.bound, noting-begins gs v c.args.now (seen_in c.args.slab.now) c.requires.reached left behind, refl)

pub loop-index-preserved : goal.loop-index-preserved
loop-index-preserved c =
    let gs = c.args.guards.now in
    let v = c.args.version.now in
    let before = seen_in c.args.slab.now in
    let old = seen_in c.loop-index.slab in
    let index = c.in-Some.index in
    let place = c.in-Some.place in
    let left = c.loop-index.left in
    let past : ArePast gs v.key (index + 1) left = subst (λ k. ArePast gs k (index + 1) left) c.as_slice-key.ensures c.in-Some.ensures.1 in
    let passed = noting-passes gs v c.args.now before c.requires.reached old (index + 1) left c.loop-index.invariant.1 past in
    let noted_here : seen_in c.note_at.new.slab place ≡ option_map (noted (v ∷ []) c.args.now) (old place)
    = c.note_at.ensures.here ∙ ap (λ us. option_map (noted us c.args.now) (old place)) c.from_ref-versions.ensures.value in (
      (let l = c.in-Some.ensures.0 in let m = c.loop-index.invariant.0 in omega arith),
      noting-goes gs v c.args.now before c.requires.reached old (seen_in c.note_at.new.slab) index place passed c.in-Some.ensures.2 noted_here
          (λ other d. ap (λ (o : Option Entry). option_map tracked_of o) (c.note_at.ensures.others other d)),
      c.note_at.ensures.count ∙ c.loop-index.invariant.2,
    )

pub returns-clause-each : goal.returns-clause-each
returns-clause-each c =
    let gs = c.args.guards.now in
    let v = c.args.version.now in
    let before = seen_in c.args.slab.now in
    let after = seen_in c.loop-index.slab in
    let left = c.loop-index.left in
    let past : ArePast gs v.key 0 left = subst (λ k. ArePast gs k 0 left) c.as_slice-key.ensures c.in_default.ensures in
    noting-ends gs v c.args.now before c.requires.guarded after
    (noting-passes gs v c.args.now before c.requires.reached after 0 left c.loop-index.invariant.1 past)

-- A step goes past what is covered, or takes what lies in a gap.
use Rattle.std.proofs.Common.{◌≡◌, ◌++◌, List, ◌&&◌, sym, ◌∙◌, subst, map}
use Rattle.kv_model.specs.History.{KeyValue}
use Rattle.kv_model.specs.Keys.{key_le, key_lt}
use Rattle.kv_model.specs.Ranges.{live}
use Rattle.range_view.specs.Replies.{kv_view}
use Rattle.store_laws.proofs.DeleteLaws.{live-ascends}
use Rattle.swept_ranges.specs.Swept.{covers, of_keys, AreBut}
use Rattle.swept_ranges.specs.Walks.{AreButFrom}
use Rattle.swept_ranges.proofs.Sweeping.{le-trans, past-all, past-until, through-gap, to-end, part-gap, part-rest}
use Rattle.swept_ranges.proofs.swept.step.Goals as goal

pub returns-in-Covered : goal.returns-in-Covered
returns-in-Covered c =
    let v = c.args.view.now in
    past-all (covers c.args.swept.now) c.args.from.now (map kv_view c.args.kvs.now.items) (live v.versions v.place c.args.range.now)
    c.in-Covered.ensures c.requires.so_far

pub returns-in-Until : goal.returns-in-Until
returns-in-Until c =
    let v = c.args.view.now in
    let to = c.in-Until.to.now in (
      le-trans c.args.whole.now.from.now c.args.from.now to c.requires.from c.in-Until.ensures.0,
      past-until (covers c.args.swept.now) c.args.from.now to (map kv_view c.args.kvs.now.items) (live v.versions v.place c.args.range.now)
          c.in-Until.ensures.0 c.in-Until.ensures.1 c.requires.so_far,
    )

pub returns-else-not-branch : goal.returns-else-not-branch
returns-else-not-branch c =
    let v = c.args.view.now in
    let r = c.args.range.now in
    let w = c.args.whole.now in
    let from = c.args.from.now in
    let to = c.in-Gap.to.now in
    let had : List KeyValue = map kv_view c.args.kvs.now.items in
    let all : List KeyValue = live v.versions v.place r in
    let cover = covers c.args.swept.now in
    let more : map kv_view c.push_live.new.kvs.items ≡ had ++ of_keys (λ k. key_le from k && key_lt k to) all
    = c.in_ok-push_live-in-Gap.ensures c.if-not-branch.false r (λ k. key_le from k && key_lt k to)
    (part-gap w r from to c.requires.whole c.requires.from (sym c.is_below.ensures ∙ c.if-is_below.true)) in (
      le-trans w.from.now from to c.requires.from c.in-Gap.ensures,
      subst (λ kvs. AreButFrom cover to kvs all) (sym more)
          (through-gap cover from to had all c.in-Gap.ensures (live-ascends v.versions v.place r) c.requires.so_far),
    )

pub returns-else-not-branch-2 : goal.returns-else-not-branch-2
returns-else-not-branch-2 c =
    let v = c.args.view.now in
    let r = c.args.range.now in
    let from = c.args.from.now in
    let had : List KeyValue = map kv_view c.args.kvs.now.items in
    let all : List KeyValue = live v.versions v.place r in
    let more : map kv_view c.push_live-in_default.new.kvs.items ≡ had ++ of_keys (key_le from) all
    = c.in_ok-push_live-in_default.ensures c.if-not-branch-2.false r (key_le from)
    (part-rest c.args.whole.now r from c.requires.whole c.requires.from) in
    subst (λ kvs. AreBut (covers c.args.swept.now) kvs all) (sym more)
    (to-end (covers c.args.swept.now) from had all c.requires.so_far)

-- Where there are enough, no more are gathered; else the last of what is left is taken.
use Rattle.std.proofs.Common.{◌≡◌, ◌+◌, ◌-◌, ◌∙◌, [], ap, false, length, rules, sym, take, true}
use Rattle.shown_ranges.specs.Shown.{gathered, is_enough, shows, turned}
use Rattle.shown_ranges.proofs.Gathering.{gathered-full, gathered-next}
use Rattle.shown_ranges.proofs.Turning.{turned-next, turned-none, turned-whole}
use Rattle.shown_ranges.proofs.shown.last_shown.Goals as goal

pub loop-i-init : goal.loop-i-init
loop-i-init c =
    let q = c.args.query.now in
    let kvs = c.args.kvs.now in
    ap (λ ys. gathered q.limit (shows q) (λ kv. kv) ys (turned (take (length kvs - 0) kvs))) c.new-shown.ensures.items
    ∙ ap (gathered q.limit (shows q) (λ kv. kv) []) (turned-whole kvs)

pub returns-then-is_enough : goal.returns-then-is_enough
returns-then-is_enough c =
    let q = c.args.query.now in
    let kvs = c.args.kvs.now in
    let enough : is_enough q.limit (length c.loop-i.shown.items) ≡ true = search rules in
    sym (gathered-full (shows q) (λ kv. kv) q.limit c.loop-i.shown.items (turned (take (length kvs - c.loop-i.i) kvs)) enough)
    ∙ c.loop-i.invariant

pub loop-i-preserved : goal.loop-i-preserved
loop-i-preserved c =
    let q = c.args.query.now in
    let kvs = c.args.kvs.now in
    let left : is_enough q.limit (length c.loop-i.shown.items) ≡ false = search rules in
    ap (λ ys. gathered q.limit (shows q) (λ kv. kv) ys (turned (take (length kvs - (c.loop-i.i + 1)) kvs))) c.in_ok-gather.ensures
    ∙ gathered-next (shows q) (λ kv. kv) q.limit c.loop-i.shown.items _ (turned (take (length kvs - (c.loop-i.i + 1)) kvs)) left
    ∙ ap (gathered q.limit (shows q) (λ kv. kv) c.loop-i.shown.items) (sym (turned-next kvs c.loop-i.i _ c.loop-i-test.true))
    ∙ c.loop-i.invariant

pub returns : goal.returns
returns c =
    let q = c.args.query.now in
    let kvs = c.args.kvs.now in
    sym (ap (gathered q.limit (shows q) (λ kv. kv) c.loop-i.shown.items) (turned-none kvs c.loop-i.i c.loop-i-test.false)) ∙ c.loop-i.invariant

-- Where there are enough, no more are gathered.
use Rattle.std.proofs.Common.{◌≡◌, ◌∙◌, sym, length, true, rules, drop}
use Rattle.shown_ranges.specs.Shown.{is_enough, shows}
use Rattle.shown_ranges.proofs.Gathering.{gathered-full}
use Rattle.shown_ranges.proofs.shown.first_shown.Goals as goal

pub returns-then-is_enough : goal.returns-then-is_enough
returns-then-is_enough c =
    let enough : is_enough c.args.query.now.limit (length c.loop-kv.shown.items) ≡ true = search rules in
    sym (gathered-full (shows c.args.query.now) (λ kv. kv) c.args.query.now.limit c.loop-kv.shown.items (drop c.loop-kv.kv-index c.args.kvs.now) enough)
    ∙ c.loop-kv.invariant

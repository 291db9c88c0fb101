-- Where there are enough, no more are gathered.
use Rattle.std.proofs.Common.{◌≡◌, ◌∙◌, sym, length, true, rules, drop}
use Rattle.live_keys.specs.Ranked.{is_shown}
use Rattle.shown_ranges.specs.Shown.{is_enough}
use Rattle.shown_ranges.proofs.Gathering.{gathered-full}
use Rattle.live_keys.proofs.ranking.first_ranked.Goals as goal

pub returns-then-is_enough : goal.returns-then-is_enough
returns-then-is_enough c =
    let q = c.args.query.now in
    let enough : is_enough q.limit (length c.loop-one.shown.items) ≡ true = search rules in
    sym (gathered-full (is_shown q c.args.part) (λ r. r.kv) q.limit c.loop-one.shown.items (drop c.loop-one.one-index c.args.placed.now) enough)
    ∙ c.loop-one.invariant

use Rattle.std.proofs.Common.{◌≡◌, [], drop}
use Rattle.live_keys.specs.Ranked.{is_shown}
use Rattle.shown_ranges.specs.Shown.{gathered}
use Rattle.live_keys.proofs.ranking.first_ranked.Given as goal

-- what is gathered behind those so far is what all give
abbrev pub invariant-loop-one : goal.invariant-loop-one
invariant-loop-one l =
    gathered l.query.limit (is_shown l.query l.part) (λ r. r.kv) l.shown.items (drop l.one-index l.placed)
    ≡ gathered l.query.limit (is_shown l.query l.part) (λ r. r.kv) [] l.placed

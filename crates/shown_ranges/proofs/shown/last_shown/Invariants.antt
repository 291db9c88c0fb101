use Rattle.std.proofs.Common.{◌≡◌, ◌-◌, [], length, take}
use Rattle.shown_ranges.specs.Shown.{gathered, shows, turned}
use Rattle.shown_ranges.proofs.shown.last_shown.Given as goal

-- what is gathered behind those so far is what all give
abbrev pub invariant-loop-i : goal.invariant-loop-i
invariant-loop-i l =
    gathered l.query.limit (shows l.query) (λ kv. kv) l.shown.items (turned (take (length l.kvs - l.i) l.kvs))
    ≡ gathered l.query.limit (shows l.query) (λ kv. kv) [] (turned l.kvs)

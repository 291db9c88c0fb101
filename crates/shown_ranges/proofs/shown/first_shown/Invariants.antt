use Rattle.std.proofs.Common.{◌≡◌, [], drop}
use Rattle.shown_ranges.specs.Shown.{gathered, shows}
use Rattle.shown_ranges.proofs.shown.first_shown.Given as goal

-- what is gathered behind those so far is what all give
abbrev pub invariant-loop-kv : goal.invariant-loop-kv
invariant-loop-kv l =
    gathered l.query.limit (shows l.query) (λ kv. kv) l.shown.items (drop l.kv-index l.kvs) ≡ gathered l.query.limit (shows l.query) (λ kv. kv) [] l.kvs

use Rattle.std.proofs.Common.{◌≡◌, ℕ, ◌<◌, None, option_and_then}
use Rattle.watch_hub.specs.Entries.{seen_in}
use Rattle.watch_hub.proofs.noting.is_any_ahead.Given as goal

-- those below the place wait for nothing
abbrev pub invariant-loop-place : goal.invariant-loop-place
invariant-loop-place l = (p : ℕ) → p < l.place → option_and_then (λ t. t.ahead) (seen_in l.slab p) ≡ None

use Rattle.std.proofs.Common.{◌+◌, ◌*◌, ◌^◌, ◌≡◌, ◌<◌, ◌≤◌, false, ℕ, drop, length}
use Rattle.std.specs.Fmt.{digits}
use Rattle.http_reply.proofs.Digits.{digits_before}
use Rattle.http_reply.proofs.hexadecimal.hexadecimal.Given as goal

abbrev pub invariant-loop-rest : goal.invariant-loop-rest
invariant-loop-rest l = (l.at ≤ 15) × (length l.buffer ≡ 16) × (l.rest < 16 * 16 ^ l.at) × (digits 16 false l.fn.number ≡ digits_before (49 + l.at) l.rest (drop (l.at + 1) l.buffer))

abbrev pub decreases-loop-rest : goal.decreases-loop-rest
decreases-loop-rest l = l.rest

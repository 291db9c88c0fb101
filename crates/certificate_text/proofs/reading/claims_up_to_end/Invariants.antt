use Rattle.std.proofs.Common.{◌≡◌, length}
use Rattle.certificate_text.specs.Lines.{lines_of}
use Rattle.certificate_text.specs.Reading.{claim_in}
use Rattle.certificate_text.specs.Walking.{up_to_end, with_front}
use Rattle.certificate_text.proofs.reading.claims_up_to_end.Given as goal

-- what was read so far, and what the rest gives, is what the whole gives
abbrev pub invariant-loop-line : goal.invariant-loop-line
invariant-loop-line l = with_front l.claims.items (up_to_end (claim_in l.is_first) (lines_of l.rest)) ≡ up_to_end (claim_in l.is_first) (lines_of l.text)

abbrev pub decreases-loop-line : goal.decreases-loop-line
decreases-loop-line l = length l.rest

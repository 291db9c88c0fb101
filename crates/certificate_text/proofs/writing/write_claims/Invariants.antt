use Rattle.std.proofs.Common.{◌≡◌, ◌++◌, drop, map, string_bytes}
use Rattle.certificate_text.specs.Texts.{claim_line, written}
use Rattle.certificate_text.proofs.writing.write_claims.Given as goal

abbrev pub invariant-loop-claim : goal.invariant-loop-claim
invariant-loop-claim l = string_bytes l.out ++ written (map claim_line (drop l.claim-index l.claims))
    ≡ string_bytes l.fn.out ++ written (map claim_line l.claims)

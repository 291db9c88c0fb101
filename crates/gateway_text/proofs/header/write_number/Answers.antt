use Rattle.std.proofs.Common.{arith, append_assoc, rules}
use Rattle.gateway_text.proofs.Bare.{escaped_decimal}
use Rattle.gateway_text.proofs.header.write_number.Goals as goal

pub returns : goal.returns
returns c = let same = escaped_decimal c.args.n (omega arith) in search (rules, same, append_assoc)

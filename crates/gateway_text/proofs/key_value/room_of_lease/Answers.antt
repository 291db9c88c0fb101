use Rattle.std.proofs.Common.{rules}
use Rattle.std.specs.Prelude.{FitsSigned}
use Rattle.std.specs.Int.{w64}
use Rattle.gateway_text.proofs.Lengths.{lease-most}
use Rattle.gateway_text.proofs.key_value.room_of_lease.Goals as goal

pub returns-clause-least : goal.returns-clause-least
returns-clause-least c =
    let fits : FitsSigned w64 c.args.kv.now.lease = search rules in
    lease-most c.args.kv.now.lease fits

use Rattle.std.proofs.Common.{◌<◌, ◌^◌, rules}
use Rattle.gateway_text.proofs.Lengths.{digits-enough}
use Rattle.gateway_text.proofs.header.digits.Goals as goal

pub returns-clause-least : goal.returns-clause-least
returns-clause-least c =
    let small : c.args.n < 2 ^ 64 = search rules in
    digits-enough c.args.n small

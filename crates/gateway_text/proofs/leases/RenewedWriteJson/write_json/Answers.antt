use Rattle.std.proofs.Common.{rules}
use Rattle.std.specs.Prelude.{FitsSigned}
use Rattle.std.specs.Int.{w64}
use Rattle.std.proofs.lemmas.Int.{to_z-of_z}
use Rattle.gateway_text.proofs.leases.RenewedWriteJson.write_json.Goals as goal

pub returns : goal.returns
returns c =
    let fits : FitsSigned w64 c.args.self.now.id = search rules in
    rw (to_z-of_z w64 c.args.self.now.id fits) at c.write_lease.ensures

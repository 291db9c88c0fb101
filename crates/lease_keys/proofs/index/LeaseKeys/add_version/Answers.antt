use Rattle.std.proofs.Common.{sym, ◌∙◌, rules, FitsSigned}
use Rattle.std.proofs.lemmas.Int.{to_z-of_z}
use Rattle.std.specs.Int.{w64}
use Rattle.std.proofs.lemmas.Result.{on_ok_weaker}
use Rattle.lease_keys.proofs.Holding.{put-one}
use Rattle.lease_keys.proofs.index.LeaseKeys.add_version.Goals as goal

pub returns-in-Some-clause-ok : goal.returns-in-Some-clause-ok
returns-in-Some-clause-ok c =
    let fits : FitsSigned w64 c.in-Some.lease = search rules in
    on_ok_weaker c.add.result
    (put-one c.args.version.now c.in-Some.lease c.args.self.now c.add.new.self (sym c.lease_of.ensures ∙ c.in-Some.is))
    (rw (to_z-of_z w64 c.in-Some.lease fits) at c.add.ensures.ok)

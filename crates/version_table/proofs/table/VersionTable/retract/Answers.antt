-- The versions of the main revision go from the end, until the last is of another one.
use Rattle.std.proofs.Common.{◌∙◌}
use Rattle.version_table.proofs.Retracting.{none-retracted}
use Rattle.version_table.proofs.table.VersionTable.retract.Goals as goal

pub returns : goal.returns
returns c =
    let left = c.take_last.ensures.left c.taking-test.false in
    left.0 ∙ none-retracted c.args.main c.taking.self left.1 ∙ c.taking.invariant

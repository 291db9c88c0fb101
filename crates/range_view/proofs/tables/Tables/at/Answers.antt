-- No version, and the index of none.
use Rattle.std.proofs.Common.{rules}
use Rattle.range_view.proofs.Growing.{blank_tables}
use Rattle.range_view.proofs.tables.Tables.at.Goals as goal

pub invariant_of-result : goal.invariant_of-result
invariant_of-result c = search (rules, blank_tables)

-- No version in the table stands from the revision on.
use Rattle.std.proofs.Common.{not}
use Rattle.std.specs.List.{find}
use Rattle.kv_model.specs.History.{rev_lt}
use Rattle.version_table.proofs.Rising.{behind-none_from}
use Rattle.table_tests.proofs.Behind.{none}
use Rattle.table_tests.proofs.trimming.Kept.put.Goals as goal

pub add-requires-clause-behind : goal.add-requires-clause-behind
add-requires-clause-behind c =
    let vs = c.self.inside.table in
    behind-none_from (record { main = c.args.main; sub = 0 }) vs
    (none (find (λ v. not (rev_lt v.rev (record { main = c.args.main; sub = 0 }))) vs) c.in-None.ensures.value)

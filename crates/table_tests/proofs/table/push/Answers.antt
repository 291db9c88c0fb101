-- No version in the table stands from the revision on.
use Rattle.std.proofs.Common.{not, sym, subst}
use Rattle.std.specs.List.{find}
use Rattle.kv_model.specs.declared.version.Rev.{Rev}
use Rattle.kv_model.specs.History.{rev_lt}
use Rattle.version_table.specs.Rising.{IsBehind}
use Rattle.version_table.proofs.Rising.{behind-none_from}
use Rattle.table_tests.proofs.Behind.{none}
use Rattle.table_tests.proofs.table.push.Goals as goal

pub push-requires : goal.push-requires
push-requires c =
    let vs = c.args.table.now in
    subst (λ (p : Rev). IsBehind p vs) (sym c.tombstone.ensures)
    (behind-none_from c.args.rev vs (none (find (λ v. not (rev_lt v.rev c.args.rev)) vs) c.in-None.ensures.value))

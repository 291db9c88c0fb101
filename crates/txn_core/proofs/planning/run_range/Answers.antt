-- The refusal of its own revision is what a Range is refused by.
use Rattle.std.proofs.Common.{sym, ◌∙◌}
use Rattle.kv_model.specs.Ranges.{revision_refusal}
use Rattle.txn_core.proofs.planning.run_range.Goals as goal

pub returns-in-Some-clause-refused : goal.returns-in-Some-clause-refused
returns-in-Some-clause-refused c =
    sym (c.revision_refusal.ensures
    ∙ (λ i. revision_refusal (c.compacted.ensures i) (c.revision.ensures i) c.args.query.now.revision)) ∙ c.in-Some.is

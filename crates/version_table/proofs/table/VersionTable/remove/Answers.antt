-- A rising list still rises when an element is taken out, and is counted.
use Rattle.std.proofs.Common.{not, sym, subst, arith}
use Rattle.kv_model.specs.History.{is_at}
use Rattle.store_laws.proofs.Rising.{rising-filter}
use Rattle.version_table.specs.Paged.{flat}
use Rattle.version_table.specs.Rising.{IsRising, rev_of}
use Rattle.version_table.proofs.table.VersionTable.remove.Goals as goal

pub invariant_of-self : goal.invariant_of-self
invariant_of-self c = record {
  rising = subst IsRising (sym c.remove-gone.ensures.value)
      (rising-filter rev_of (λ v. not (is_at c.args.rev v)) (flat c.self.inside.pages.items) c.self.invariant.rising);
  held = c.remove-gone.ensures.held;
  fit = c.remove-gone.ensures.fit;
  spare = c.self.invariant.spare;
  counted = omega (arith, c.remove-gone.ensures.count, c.self.invariant.counted);
}

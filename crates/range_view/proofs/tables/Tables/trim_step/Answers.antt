-- What is left rises still, and the index is that of it.
use Rattle.std.proofs.Common.{◌≡◌, sym, ap, subst}
use Rattle.store_laws.specs.Trimming.{TrimStep, trimmed}
use Rattle.version_table.specs.Rising.{IsRising}
use Rattle.range_view.specs.Stored.{IsUpTo}
use Rattle.range_view.proofs.Growing.{trimmed-rising, trimmed-upto}
use Rattle.range_view.proofs.tables.Tables.trim_step.Goals as goal

pub invariant_of-self : goal.invariant_of-self
invariant_of-self c =
    let was = c.self.inside in
    let left : c.step.new.table ≡ (trimmed was.table was.trimmer was.compacted).versions = ap (λ (t : TrimStep). t.versions) c.step.ensures.exact in
    record {
      stored = record {
        opened = c.self.invariant.stored.opened;
        rising = subst IsRising (sym left) (trimmed-rising was.table was.trimmer was.compacted c.self.invariant.stored.rising);
        upto = subst (IsUpTo was.revision) (sym left) (trimmed-upto was.revision was.table was.trimmer was.compacted c.self.invariant.stored.upto);
      };
      agrees = c.step.ensures.agrees;
    }

pub step-requires : goal.step-requires
step-requires c = c.self.invariant.agrees

pub returns-clause-told : goal.returns-clause-told
returns-clause-told c = rw (← c.self.view_is) (ap (λ (t : TrimStep). t.told) c.step.ensures.exact)

pub returns-clause-kept : goal.returns-clause-kept
returns-clause-kept c = rw (← c.self.view_is) (λ i. record { versions = (c.step.ensures.exact i).versions; compacted = c.self.inside.compacted; revision = c.self.inside.revision; place = (c.step.ensures.exact i).place })

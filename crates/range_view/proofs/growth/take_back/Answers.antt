-- The index is that of what is left, which is below the revision.
use Rattle.std.proofs.Common.{sym, subst}
use Rattle.version_table.specs.Rising.{IsRising}
use Rattle.key_index.specs.Agrees.{Agrees}
use Rattle.range_view.specs.Stored.{IsBelow}
use Rattle.range_view.proofs.TakingBack.{retracted-below, retracted-rising}
use Rattle.range_view.proofs.growth.take_back.Goals as goal

pub returns-clause-older : goal.returns-clause-older
returns-clause-older c =
    subst (IsBelow c.args.main) (sym c.retract.ensures) (retracted-below c.args.main c.args.table.now c.requires.tied.rising c.requires.upto)

pub returns-clause-tied : goal.returns-clause-tied
returns-clause-tied c =
    record {
      rising = subst IsRising (sym c.retract.ensures) (retracted-rising c.args.main c.args.table.now c.requires.tied.rising c.requires.upto);
      agrees = subst (Agrees c.unindex.new.index) (sym c.retract.ensures) c.unindex.ensures;
    }

-- The version before which no other stands is at the revision, or none is.
use Rattle.std.proofs.Common.{option_copied, sym, ◌∙◌, ap}
use Rattle.version_table.proofs.Rising.{found, missed, past}
use Rattle.version_table.proofs.halving.index_of.Goals as goal

pub returns-in-Some-clause-found : goal.returns-in-Some-clause-found
returns-in-Some-clause-found c =
    (found _ _ _ c.requires c.count_before-index.ensures _ (sym c.in-Some.ensures) (sym c.eq.ensures ∙ c.if-eq.true)).0

pub returns-in-Some-clause-without : goal.returns-in-Some-clause-without
returns-in-Some-clause-without c =
    (found _ _ _ c.requires c.count_before-index.ensures _ (sym c.in-Some.ensures) (sym c.eq.ensures ∙ c.if-eq.true)).1

pub returns-in_default-clause-found : goal.returns-in_default-clause-found
returns-in_default-clause-found c =
    (missed _ _ _ c.requires c.count_before-index.ensures _ (sym c.in-Some.ensures) (sym c.eq.ensures ∙ c.if-eq.false)).0

pub returns-in_default-clause-without : goal.returns-in_default-clause-without
returns-in_default-clause-without c =
    (missed _ _ _ c.requires c.count_before-index.ensures _ (sym c.in-Some.ensures) (sym c.eq.ensures ∙ c.if-eq.false)).1

pub returns-in_default-2-clause-found : goal.returns-in_default-2-clause-found
returns-in_default-2-clause-found c =
    (past _ _ _ c.requires c.count_before-index.ensures (sym c.version_at.ensures ∙ ap option_copied c.in_default.is)).0

pub returns-in_default-2-clause-without : goal.returns-in_default-2-clause-without
returns-in_default-2-clause-without c =
    (past _ _ _ c.requires c.count_before-index.ensures (sym c.version_at.ensures ∙ ap option_copied c.in_default.is)).1

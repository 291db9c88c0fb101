-- A version at the revision is the one that is found.
use Rattle.std.proofs.Common.{sym, ◌∙◌}
use Rattle.version_table.proofs.Rising.{find-at}
use Rattle.version_table.proofs.halving.version_if.Goals as goal

pub returns-in-Some : goal.returns-in-Some
returns-in-Some c = find-at _ _ _ _ c.requires (sym c.in-Some.ensures) (sym c.eq.ensures ∙ c.if-eq.true)

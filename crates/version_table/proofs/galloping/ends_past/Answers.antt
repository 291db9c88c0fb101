use Rattle.std.proofs.Common.{ap, ◌∙◌}
use Rattle.version_table.specs.Paged.{past_or_none}
use Rattle.version_table.proofs.galloping.ends_past.Goals as goal

pub returns-in-Some : goal.returns-in-Some
returns-in-Some c = c.is_past.ensures ∙ ap (past_or_none c.args.rev) c.in-Some.ensures

pub returns-in-None : goal.returns-in-None
returns-in-None c = ap (past_or_none c.args.rev) c.in-None.ensures

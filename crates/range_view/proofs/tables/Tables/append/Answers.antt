-- No versions change nothing.
use Rattle.std.proofs.Common.{◌∙◌, sym}
use Rattle.range_view.proofs.Growing.{appended-nothing}
use Rattle.range_view.proofs.tables.Tables.append.Goals as goal

pub append_all-requires-clause-first : goal.append_all-requires-clause-first
append_all-requires-clause-first c = sym c.main_of.ensures ∙ c.in-Some.is

pub returns-in-None-clause-ok : goal.returns-in-None-clause-ok
returns-in-None-clause-ok c = appended-nothing c.args.self.now c.args.versions.now (sym c.main_of.ensures ∙ c.in-None.is)

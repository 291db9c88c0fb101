-- The first version of all is the first one of the first page.
use Rattle.std.proofs.Common.{sym, ◌∙◌, ap, option_map}
use Rattle.version_table.specs.Rising.{rev_of}
use Rattle.version_table.proofs.PageLookups.{first-flat, first_in}
use Rattle.version_table.proofs.pages.oldest.Goals as goal

pub returns-in-Some : goal.returns-in-Some
returns-in-Some c = c.rev_at.ensures ∙ ap (option_map rev_of) (ap first_in c.in-Some.ensures ∙ sym (first-flat _ c.requires))

pub returns-in-None : goal.returns-in-None
returns-in-None c = ap (option_map rev_of) (ap first_in c.in-None.ensures ∙ sym (first-flat _ c.requires))

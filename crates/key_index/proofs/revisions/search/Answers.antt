-- Of the revisions that are not after the place the last one is the one before their number.
use Rattle.std.proofs.Common.{sym, ◌∙◌}
use Rattle.key_index.proofs.KeyRevisions.{at_place-some, at_place-none}
use Rattle.key_index.proofs.revisions.search.Goals as goal

pub returns-in-Some : goal.returns-in-Some
returns-in-Some c = c.rev_at.ensures.value ∙ at_place-some c.args.place _ _ _ c.requires c.count_up_to.ensures c.in-Some.ensures.0 (sym c.in-Some.ensures.1)

pub returns-in-None : goal.returns-in-None
returns-in-None c = at_place-none c.args.place _ _ c.requires c.count_up_to.ensures c.in-None.ensures

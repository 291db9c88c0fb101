use Rattle.std.proofs.Common.{sym, ◌∙◌}
use Rattle.watch_hub.proofs.Finding.{key-found, key-missed}
use Rattle.watch_hub.proofs.entries.key_of.Goals as goal

pub returns-in-Some : goal.returns-in-Some
returns-in-Some c = sym (key-found c.args.number c.args.places.now c.in-Some.index _ (sym c.index_of.ensures.index ∙ c.in-Some.is))

pub returns-in-None : goal.returns-in-None
returns-in-None c = sym (key-missed c.args.number c.args.places.now (sym c.index_of.ensures.index ∙ c.in-None.is))

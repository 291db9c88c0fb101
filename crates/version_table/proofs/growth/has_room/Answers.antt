-- The last page decides.
use Rattle.std.proofs.Common.{◌∙◌, ap}
use Rattle.version_table.specs.Paged.{room_in}
use Rattle.version_table.proofs.growth.has_room.Goals as goal

pub returns-in-Some : goal.returns-in-Some
returns-in-Some c = c.has_room.ensures ∙ ap room_in c.in-Some.ensures

pub returns-in-None : goal.returns-in-None
returns-in-None c = ap room_in c.in-None.ensures

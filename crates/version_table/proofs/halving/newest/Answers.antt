-- The last version is the one at the last index.
use Rattle.std.proofs.Common.{◌∙◌}
use Rattle.store_laws.proofs.Rising.{slice_get-newest}
use Rattle.version_table.proofs.halving.newest.Goals as goal

pub returns : goal.returns
returns c = c.last.ensures.value ∙ slice_get-newest c.args.versions.now

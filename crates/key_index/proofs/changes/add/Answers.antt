-- The map takes the revision in its place.
use Rattle.std.proofs.Common.{[], unwrap_or, subst}
use Rattle.key_index.specs.KeyRevisions.{IsBehind}
use Rattle.key_index.proofs.changes.add.Goals as goal

pub put-requires : goal.put-requires
put-requires c = λ w e. subst (λ o. IsBehind c.args.rev (unwrap_or o [])) e c.requires

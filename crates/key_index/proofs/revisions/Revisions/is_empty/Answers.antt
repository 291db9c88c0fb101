-- A list has two revisions or more.
use Rattle.key_index.proofs.KeyRevisions.{many-not_empty}
use Rattle.key_index.proofs.revisions.Revisions.is_empty.Goals as goal

pub returns-in-Many : goal.returns-in-Many
returns-in-Many c = rw (← c.self.view_is, c.in-Many.is) (many-not_empty _ (rw c.in-Many.is at c.self.invariant).1)

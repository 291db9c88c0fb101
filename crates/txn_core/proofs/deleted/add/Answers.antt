-- The key that is added is found, and so is each that was.
use Rattle.std.proofs.Common.{◌∙◌, ap, cond, true}
use Rattle.txn_core.specs.Graves.{has_key}
use Rattle.txn_core.proofs.Making.{eq-same, cond-or}
use Rattle.txn_core.proofs.deleted.add.Goals as goal

pub returns-clause-ok : goal.returns-clause-ok
returns-clause-ok c = λ k.
    c.in_ok-insert.ensures.updates.0 (record c.args.key { now = k })
    ∙ ap (λ b. cond b true (has_key k c.args.deleted.now)) (eq-same c.args.key.now k)
    ∙ cond-or (has_key k c.args.deleted.now) _

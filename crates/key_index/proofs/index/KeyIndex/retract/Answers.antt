-- Where a later main revision is there nothing changes; else what the keys of the changes have of this one goes.
use Rattle.std.proofs.Common.{sym, ◌∙◌, subst}
use Rattle.key_index.specs.Agrees.{Agrees}
use Rattle.key_index.proofs.Bounds.{taken_back}
use Rattle.key_index.proofs.Retracting.{other-retracted, whole-agrees}
use Rattle.key_index.proofs.index.KeyIndex.retract.Goals as goal

pub returns-then-is_up_to-clause-value : goal.returns-then-is_up_to-clause-value
returns-then-is_up_to-clause-value c =
    c.take_back.ensures ∙ sym (taken_back c.args.main c.args.changes.now c.args.self.now (sym c.is_up_to.ensures ∙ c.if-is_up_to.true))

pub returns-then-is_up_to-clause-whole : goal.returns-then-is_up_to-clause-whole
returns-then-is_up_to-clause-whole c =
    λ older h g a. subst (λ j. Agrees j older)
    (sym (c.take_back.ensures ∙ sym (taken_back c.args.main c.args.changes.now c.args.self.now (sym c.is_up_to.ensures ∙ c.if-is_up_to.true))))
    (whole-agrees c.args.main older c.args.changes.now c.args.self.now h g a)

pub returns-else-is_up_to-clause-value : goal.returns-else-is_up_to-clause-value
returns-else-is_up_to-clause-value c =
    other-retracted c.args.main c.args.changes.now c.args.self.now (sym c.is_up_to.ensures ∙ c.if-is_up_to.false)

pub returns-else-is_up_to-clause-whole : goal.returns-else-is_up_to-clause-whole
returns-else-is_up_to-clause-whole c =
    λ older h g a. subst (λ j. Agrees j older)
    (sym (other-retracted c.args.main c.args.changes.now c.args.self.now (sym c.is_up_to.ensures ∙ c.if-is_up_to.false)))
    (whole-agrees c.args.main older c.args.changes.now c.args.self.now h g a)

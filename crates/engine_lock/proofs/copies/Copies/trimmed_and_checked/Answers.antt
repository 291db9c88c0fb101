use Rattle.std.proofs.Common.{◌∙◌}
use Rattle.engine_lock.proofs.Copying.{checked_found, found_whole}
use Rattle.engine_lock.proofs.copies.Copies.trimmed_and_checked.Goals as goal

pub returns-clause-steps : goal.returns-clause-steps
returns-clause-steps g c = checked_found c.trimmed_and_checked.result c.args.self.now.core c.in-Whole.core c.trimmed_and_checked.new.core
    (found_whole c.self.inside.hold c.self.inside.feed c.args.self.now c.in-Whole.core c.in-Whole.ops (c.self.view_is ∙ c.own.ensures) c.in-Whole.is)
    c.trimmed_and_checked.ensures.steps

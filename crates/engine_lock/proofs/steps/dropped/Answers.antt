use Rattle.std.specs.Prelude.{is_ok}
use Rattle.engine_lock.proofs.Stepping.{makes_ending}
use Rattle.engine_lock.proofs.steps.dropped.Goals as goal

pub returns-clause-makes : goal.returns-clause-makes
returns-clause-makes c = λ ids fed. makes_ending ids c.args.number (is_ok c.cancel.result) c.args.core.now c.cancel.new.self fed
    c.cancel.ensures.stood c.cancel.ensures.stands c.cancel.ensures.kept

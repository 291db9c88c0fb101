use Rattle.std.proofs.Common.{refl}
use Rattle.std.specs.Prelude.{is_ok}
use Rattle.request_core.specs.Apart.{joined}
use Rattle.engine_lock.proofs.Stepping.{makes_ending}
use Rattle.engine_lock.proofs.steps.dropped_apart.Goals as goal

pub returns-clause-makes : goal.returns-clause-makes
returns-clause-makes c = λ ids t fed. makes_ending ids c.args.number (is_ok c.cancel.result) (joined t c.args.rest.now) (joined t c.cancel.new.self) fed
    (c.cancel.ensures.stood t) (c.cancel.ensures.stands t) refl

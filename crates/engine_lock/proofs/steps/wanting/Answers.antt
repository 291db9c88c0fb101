use Rattle.std.proofs.Common.{refl}
use Rattle.kv_model.specs.Follows.Outcome.{memory}
use Rattle.event_book.specs.Events.{Event}
use Rattle.engine_lock.proofs.Stepping.{makes_still}
use Rattle.engine_lock.proofs.steps.wanting.Goals as goal

pub returns-clause-makes : goal.returns-clause-makes
returns-clause-makes c = λ ids now core fed. makes_still ids (Event.command now c.args.asked.now) memory core core fed
    (λ w h. refl) (λ w h. h) (λ w. refl) refl

pub returns-clause-asked : goal.returns-clause-asked
returns-clause-asked c = c.command-told.ensures.asked

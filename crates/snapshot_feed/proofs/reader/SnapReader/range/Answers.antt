use Rattle.std.proofs.Common.{ap, ◌∙◌, subst}
use Rattle.store_laws.specs.Changes.{untrimmed}
use Rattle.event_book.specs.Events.{led_to}
use Rattle.snapshot_feed.specs.declared.seat.Seat.{Seat}
use Rattle.snapshot_feed.specs.declared.seat.Seat.TheVariants.{In}
use Rattle.snapshot_feed.specs.Answers.{AnswersOf}
use Rattle.snapshot_feed.specs.Seats.{Looking, IsSeated}
use Rattle.snapshot_feed.proofs.Readings.{whole_answers}
use Rattle.snapshot_feed.proofs.reader.SnapReader.range.Goals as goal

pub returns-in-In : goal.returns-in-In
returns-in-In c =
    let seated : IsSeated (In c.in-In.reading) c.self.inside.known = subst (λ (s : Seat). IsSeated s c.self.inside.known) c.in-In.is c.self.invariant in
    subst (λ (r : Looking). AnswersOf (untrimmed (led_to r.reads.known)) c.args.query.now c.answer.result) c.self.view_is
    (whole_answers c.get.result.now.tables c.self.inside.known.list _ c.answer.result seated.2.1 (ap (λ t. t.tables) c.get.ensures ∙ seated.2.0) c.answer.ensures)

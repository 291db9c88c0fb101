use Rattle.std.proofs.Common.{refl, rules}
use Rattle.kv_model.specs.Follows.Outcome.{said}
use Rattle.kv_model.specs.Wire.{WireEvent}
use Rattle.json_gateway.specs.Runs.{trimmed_view}
use Rattle.engine_lock.specs.Copied.{appended}
use Rattle.event_book.specs.Events.{Event, entry}
use Rattle.event_script.proofs.Writing.{written_checked}
use Rattle.engine_lock.proofs.Locking.{locked_more}
use Rattle.engine_lock.proofs.Submitting.{makes_noted, noted}
use Rattle.engine_lock.proofs.state.State.trim_checked.Goals as goal

pub invariant_of-self-2 : goal.invariant_of-self-2
invariant_of-self-2 g c = (
  locked_more g.L.ListName.ids c.self.inside.copies.core c.self.inside.copies.core c.trimmed_and_checked.new.self.core c.self.inside.listing c.note.new.listing (appended c.self.inside.copies.feed)
      (appended c.trimmed_and_checked.new.self.feed) c.self.inside.lines c.note_checked.new.lines c.self.inside.taken (entry c.args.client.now.holder.number c.args.client.now.about Event.trimming (said (trimmed_view c.in-Ok.step)))
      c.self.invariant.0 (λ w h. h) refl (c.in-Ok.ensures.makes g.L.ListName.ids) c.note.ensures.log
      (λ w. written_checked c.self.inside.lines c.note_checked.new.lines c.self.inside.taken c.self.inside.listing c.args.client.now.holder.number c.args.client.now.about
      c.in-Ok.step w c.note_checked.ensures),
  search rules,
  c.self.invariant.2,
)

pub returns-clause-makes : goal.returns-clause-makes
returns-clause-makes g c = makes_noted g.L.ListName.ids c.args.client.now c.note.new.self Event.trimming WireEvent.trim (said (trimmed_view c.in-Ok.step)) c.self.inside.listing
    c.self.inside.copies.core c.trimmed_and_checked.new.self.core
    (noted g.L.ListName.ids c.args.client.now Event.trimming (said (trimmed_view c.in-Ok.step)) c.note.new.self c.self.inside.listing c.note.new.listing
    c.requires c.note.ensures.adds c.note.ensures.same c.note.ensures.front c.note.ensures.log)
    c.self.invariant.0.fits.stands (c.in-Ok.ensures.steps g.L.ListName.ids)

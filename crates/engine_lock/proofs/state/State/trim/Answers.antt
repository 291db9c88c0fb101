use Rattle.std.proofs.Common.{None, refl, rules}
use Rattle.kv_model.specs.Follows.Outcome.{said}
use Rattle.kv_model.specs.Wire.{trim_told}
use Rattle.trim_core.specs.Told.{told_of}
use Rattle.engine_lock.specs.Copied.{appended}
use Rattle.event_book.specs.Events.{Event, entry}
use Rattle.event_script.proofs.Writing.{written_trimming}
use Rattle.engine_lock.proofs.Locking.{locked_more}
use Rattle.engine_lock.proofs.Submitting.{noted, trims_noted}
use Rattle.engine_lock.proofs.state.State.trim.Goals as goal

pub invariant_of-self-2 : goal.invariant_of-self-2
invariant_of-self-2 g c = (
  locked_more g.L.ListName.ids c.self.inside.copies.core c.self.inside.copies.core c.trimmed.new.self.core c.self.inside.listing c.note.new.listing (appended c.self.inside.copies.feed)
      (appended c.trimmed.new.self.feed) c.self.inside.lines c.note_trimmed.new.lines c.self.inside.taken (entry c.args.client.now.holder.number c.args.client.now.about Event.trimming (said (trim_told (told_of c.in-Ok.step) None)))
      c.self.invariant.0 (λ w h. h) refl (c.in-Ok.ensures.makes g.L.ListName.ids) c.note.ensures.log
      (λ w. written_trimming c.self.inside.lines c.note_trimmed.new.lines c.self.inside.taken c.self.inside.listing c.args.client.now.holder.number c.args.client.now.about
      (told_of c.in-Ok.step) None w c.note_trimmed.ensures),
  search rules,
  c.self.invariant.2,
)

pub returns-clause-trims : goal.returns-clause-trims
returns-clause-trims g c = trims_noted g.L.ListName.ids c.args.client.now c.note.new.self c.in-Ok.step c.self.inside.listing c.self.inside.copies.core c.trimmed.new.self.core
    (noted g.L.ListName.ids c.args.client.now Event.trimming (said (trim_told (told_of c.in-Ok.step) None)) c.note.new.self c.self.inside.listing c.note.new.listing
    c.requires c.note.ensures.adds c.note.ensures.same c.note.ensures.front c.note.ensures.log)
    c.self.invariant.0.fits.stands c.in-Ok.ensures.trims

use Rattle.std.proofs.Common.{Bool, refl, sym, ◌∙◌, ap, subst, rules}
use Rattle.engine_lock.specs.Copied.{Publication, appended}
use Rattle.event_book.specs.Events.{Event, entry, led_to}
use Rattle.engine_lock.specs.Entering.{EntersAlone}
use Rattle.engine_lock.specs.Fits.{MakesOn}
use Rattle.kv_model.specs.Follows.Outcome.{said}
use Rattle.kv_model.specs.Wire.{WireTold}
use Rattle.event_book.proofs.Raising.{rise_ending}
use Rattle.event_script.proofs.Writing.{written_ending}
use Rattle.engine_lock.proofs.Entered.{enters_alone}
use Rattle.engine_lock.proofs.Fitting.{answers_entered}
use Rattle.engine_lock.proofs.Locking.{locked_more}
use Rattle.engine_lock.proofs.state.State.drop_watch.Goals as goal

pub note-requires-clause-answers : goal.note-requires-clause-answers
note-requires-clause-answers g c =
    (answers_entered g.L.ListName.ids c.self.inside.copies.core c.self.inside.copies.core c.dropped-ended.new.self.core c.self.inside.listing
    (appended c.self.inside.copies.feed) (appended c.dropped-ended.new.self.feed) (entry c.args.client.now.holder.number c.args.client.now.about (Event.ending c.args.number) (said (WireTold.closed (c.is_ok-stood.result)))) c.self.invariant.0.fits (λ w h. h) (subst (λ (b : Bool). MakesOn g.L.ListName.ids (Event.ending c.args.number) (said (WireTold.closed b)) c.self.inside.copies.core c.dropped-ended.new.self.core (appended c.self.inside.copies.feed) (appended c.dropped-ended.new.self.feed)) (sym c.is_ok-stood.ensures.value) (c.dropped-ended.ensures.makes g.L.ListName.ids)))

pub note-requires-clause-rises : goal.note-requires-clause-rises
note-requires-clause-rises g c = rise_ending (led_to c.self.inside.listing) c.args.client.now.holder.number c.args.client.now.about c.args.number (said (WireTold.closed c.is_ok-stood.result))

pub invariant_of-self : goal.invariant_of-self
invariant_of-self g c = (
  locked_more g.L.ListName.ids c.self.inside.copies.core c.self.inside.copies.core c.dropped-ended.new.self.core c.self.inside.listing c.note.new.listing (appended c.self.inside.copies.feed)
      (appended c.dropped-ended.new.self.feed) c.self.inside.lines c.note_dropped.new.lines c.self.inside.taken (entry c.args.client.now.holder.number c.args.client.now.about (Event.ending c.args.number) (said (WireTold.closed (c.is_ok-stood.result)))) c.self.invariant.0 (λ w h. h)
      refl (subst (λ (b : Bool). MakesOn g.L.ListName.ids (Event.ending c.args.number) (said (WireTold.closed b)) c.self.inside.copies.core c.dropped-ended.new.self.core (appended c.self.inside.copies.feed) (appended c.dropped-ended.new.self.feed)) (sym c.is_ok-stood.ensures.value) (c.dropped-ended.ensures.makes g.L.ListName.ids)) c.note.ensures.log
      (λ w. written_ending c.self.inside.lines c.note_dropped.new.lines c.self.inside.taken c.self.inside.listing c.args.client.now.holder.number c.args.client.now.about c.args.number c.is_ok-stood.result w (search rules) c.note_dropped.ensures),
  ap (λ (p : Publication). p.book) c.dropped-ended.ensures.feed ∙ c.self.invariant.1,
  c.self.invariant.2,
)

pub returns-clause-ends : goal.returns-clause-ends
returns-clause-ends g c =
    subst (λ (b : Bool). EntersAlone g.L.ListName.ids c.args.client.now (Event.ending c.args.number) (said (WireTold.closed b)) c.note.new.self) c.is_ok-stood.ensures.value
    (enters_alone g.L.ListName.ids c.args.client.now (Event.ending c.args.number) (said (WireTold.closed c.is_ok-stood.result)) c.note.new.self c.requires
    c.note.ensures.adds c.note.ensures.same)

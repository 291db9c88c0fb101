use Rattle.std.proofs.Common.{refl, sym, ◌∙◌, ap, subst, rules}
use Rattle.engine_lock.specs.Copied.{Publication, appended}
use Rattle.event_book.specs.Events.{Event, entry, led_to}
use Rattle.kv_model.specs.declared.ids.Ids.{Ids}
use Rattle.json_gateway.specs.Runs.{delivery_outcome}
use Rattle.engine_lock.specs.Entering.{EntersAlone}
use Rattle.engine_lock.specs.Fits.{MakesOn}
use Rattle.event_book.proofs.Raising.{rise_delivery}
use Rattle.event_script.proofs.Writing.{written_delivery}
use Rattle.engine_lock.proofs.Entered.{enters_alone}
use Rattle.engine_lock.proofs.Fitting.{answers_entered}
use Rattle.engine_lock.proofs.Locking.{locked_more}
use Rattle.engine_lock.proofs.state.State.deliver.Goals as goal

pub note-requires-clause-answers : goal.note-requires-clause-answers
note-requires-clause-answers g c =
    (answers_entered g.L.ListName.ids c.self.inside.copies.core c.self.inside.copies.core c.delivered-message.new.self.core c.self.inside.listing
    (appended c.self.inside.copies.feed) (appended c.delivered-message.new.self.feed) (entry c.args.client.now.holder.number c.args.client.now.about (Event.delivery c.args.number) (delivery_outcome c.delivered-message.result)) c.self.invariant.0.fits (λ w h. h) (subst (λ (i : Ids). MakesOn i (Event.delivery c.args.number) (delivery_outcome c.delivered-message.result) c.self.inside.copies.core c.delivered-message.new.self.core (appended c.self.inside.copies.feed) (appended c.delivered-message.new.self.feed)) c.requires.ids c.delivered-message.ensures.makes))

pub note-requires-clause-rises : goal.note-requires-clause-rises
note-requires-clause-rises g c = rise_delivery (led_to c.self.inside.listing) c.args.client.now.holder.number c.args.client.now.about c.args.number (delivery_outcome c.delivered-message.result)

pub invariant_of-self : goal.invariant_of-self
invariant_of-self g c = (
  locked_more g.L.ListName.ids c.self.inside.copies.core c.self.inside.copies.core c.delivered-message.new.self.core c.self.inside.listing c.note.new.listing (appended c.self.inside.copies.feed)
      (appended c.delivered-message.new.self.feed) c.self.inside.lines c.note_told.new.lines c.self.inside.taken (entry c.args.client.now.holder.number c.args.client.now.about (Event.delivery c.args.number) (delivery_outcome c.delivered-message.result)) c.self.invariant.0 (λ w h. h)
      refl (subst (λ (i : Ids). MakesOn i (Event.delivery c.args.number) (delivery_outcome c.delivered-message.result) c.self.inside.copies.core c.delivered-message.new.self.core (appended c.self.inside.copies.feed) (appended c.delivered-message.new.self.feed)) c.requires.ids c.delivered-message.ensures.makes) c.note.ensures.log
      (λ w. written_delivery c.self.inside.lines c.note_told.new.lines c.self.inside.taken c.self.inside.listing c.args.client.now.holder.number c.args.client.now.about c.args.number c.delivered-message.result w (search rules) c.note_told.ensures),
  ap (λ (p : Publication). p.book) c.delivered-message.ensures.feed ∙ c.self.invariant.1,
  c.self.invariant.2,
)

pub returns : goal.returns
returns g c = subst (λ (i : Ids). EntersAlone i c.args.client.now (Event.delivery c.args.number) (delivery_outcome c.delivered-message.result) c.note.new.self) (sym c.requires.ids)
    (enters_alone g.L.ListName.ids c.args.client.now (Event.delivery c.args.number) (delivery_outcome c.delivered-message.result) c.note.new.self c.requires.out c.note.ensures.adds c.note.ensures.same)

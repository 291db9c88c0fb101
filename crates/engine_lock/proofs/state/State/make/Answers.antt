use Rattle.std.proofs.Common.{◌≡◌, ℕ, false, sym, ◌∙◌, ap, subst, cond, rules}
use Rattle.engine_lock.specs.Copied.{Publication, appended}
use Rattle.kv_model.specs.Wire.{WireOutcome}
use Rattle.request_core.specs.State.{CoreState}
use Rattle.event_book.specs.Asking.{Asking}
use Rattle.event_book.specs.Events.{Event, entry, led_to}
use Rattle.kv_model.specs.declared.ids.Ids.{Ids}
use Rattle.kv_model.specs.World.{at_moment, revision}
use Rattle.json_gateway.specs.Runs.{command_view}
use Rattle.recording.specs.Lines.{Written}
use Rattle.event_script.specs.Notes.{NotesCommand}
use Rattle.event_script.proofs.Writing.{written_command}
use Rattle.engine_lock.specs.Entering.{Submits}
use Rattle.engine_lock.specs.Fits.{MakesOn}
use Rattle.engine_lock.proofs.Fitting.{answers_entered}
use Rattle.engine_lock.proofs.Locking.{locked_more}
use Rattle.engine_lock.proofs.Rising.{command_rises}
use Rattle.engine_lock.proofs.Submitting.{noted, submits_made}
use Rattle.engine_lock.proofs.state.State.make.Goals as goal

-- what was done behind the moment, by the name's ids and over what readers were told of before it
made : (named ids : Ids) (now : ℕ) (a : Asking) (o : WireOutcome) (old new : CoreState) (before between after : Publication) → ids ≡ named
    → between ≡ before → MakesOn ids (Event.command now a) o old new (appended between) (appended after)
    → MakesOn named (Event.command now a) o old new (appended before) (appended after)
made named ids now a o old new before between after is same m =
    subst (λ (i : Ids). MakesOn i (Event.command now a) o old new (appended before) (appended after)) is
    (subst (λ (p : Publication). MakesOn ids (Event.command now a) o old new (appended p) (appended after)) same m)

pub note-requires-clause-answers : goal.note-requires-clause-answers
note-requires-clause-answers g c =
    (answers_entered g.L.ListName.ids c.self.inside.copies.core c.moved.new.self.core c.performed-outcome.new.self.core c.self.inside.listing
    (appended c.self.inside.copies.feed) (appended c.performed-outcome.new.self.feed) (entry c.args.client.now.holder.number c.args.client.now.about (Event.command c.args.now c.args.asked.now) (command_view c.performed-outcome.result)) c.self.invariant.0.fits c.moved.ensures.stands
    (made g.L.ListName.ids c.args.ids.now c.args.now c.args.asked.now (command_view c.performed-outcome.result) c.moved.new.self.core c.performed-outcome.new.self.core
    c.self.inside.copies.feed c.moved.new.self.feed c.performed-outcome.new.self.feed c.requires.ids c.moved.ensures.feed (c.performed-outcome.ensures.makes c.args.now)))

pub note-requires-clause-rises : goal.note-requires-clause-rises
note-requires-clause-rises g c =
    command_rises g.L.ListName.ids (led_to c.self.inside.listing) c.args.client.now.holder.number c.args.client.now.about c.args.now c.args.asked.now c.performed-outcome.result
    (answers_entered g.L.ListName.ids c.self.inside.copies.core c.moved.new.self.core c.performed-outcome.new.self.core c.self.inside.listing
    (appended c.self.inside.copies.feed) (appended c.performed-outcome.new.self.feed) (entry c.args.client.now.holder.number c.args.client.now.about (Event.command c.args.now c.args.asked.now) (command_view c.performed-outcome.result)) c.self.invariant.0.fits c.moved.ensures.stands
    (made g.L.ListName.ids c.args.ids.now c.args.now c.args.asked.now (command_view c.performed-outcome.result) c.moved.new.self.core c.performed-outcome.new.self.core
    c.self.inside.copies.feed c.moved.new.self.feed c.performed-outcome.new.self.feed c.requires.ids c.moved.ensures.feed (c.performed-outcome.ensures.makes c.args.now))) c.performed-outcome.ensures.bare
    ∙ ap (λ b. cond b 1 0) (sym c.is_raised-raised.ensures)

pub invariant_of-self : goal.invariant_of-self
invariant_of-self g c = (
  locked_more g.L.ListName.ids c.self.inside.copies.core c.moved.new.self.core c.performed-outcome.new.self.core c.self.inside.listing c.note.new.listing (appended c.self.inside.copies.feed)
      (appended c.performed-outcome.new.self.feed) c.self.inside.lines c.note_done.new.lines c.self.inside.taken (entry c.args.client.now.holder.number c.args.client.now.about (Event.command c.args.now c.args.asked.now) (command_view c.performed-outcome.result)) c.self.invariant.0 c.moved.ensures.stands
      c.moved.ensures.tables (made g.L.ListName.ids c.args.ids.now c.args.now c.args.asked.now (command_view c.performed-outcome.result) c.moved.new.self.core c.performed-outcome.new.self.core
      c.self.inside.copies.feed c.moved.new.self.feed c.performed-outcome.new.self.feed c.requires.ids c.moved.ensures.feed (c.performed-outcome.ensures.makes c.args.now)) c.note.ensures.log
      (λ w. written_command c.self.inside.lines c.note_done.new.lines c.self.inside.taken c.self.inside.listing c.args.client.now.holder.number c.args.client.now.about c.args.now
      c.args.asked.now c.performed-outcome.result w (search rules)
      (subst (λ (l : Written). NotesCommand c.performed-outcome.result.settled c.args.asked.now.request l c.note_done.new.lines) c.hand_in.ensures c.note_done.ensures)),
  c.performed-outcome.ensures.book ∙ (ap (λ (p : Publication). p.book) c.moved.ensures.feed ∙ c.self.invariant.1),
  c.self.invariant.2,
)

pub returns-clause-submits : goal.returns-clause-submits
returns-clause-submits g c =
    subst (λ (i : Ids). Submits i c.args.client.now c.args.now c.args.asked.now (record { outcome = c.performed-outcome.result; published = false; revision = revision (led_to c.note.new.self.holder.front) }) c.note.new.self) (sym c.requires.ids)
    (submits_made g.L.ListName.ids c.args.client.now c.note.new.self c.args.now c.args.asked.now c.performed-outcome.result c.self.inside.listing
    (noted g.L.ListName.ids c.args.client.now (Event.command c.args.now c.args.asked.now) (command_view c.performed-outcome.result) c.note.new.self c.self.inside.listing c.note.new.listing c.requires.out c.note.ensures.adds c.note.ensures.same c.note.ensures.front c.note.ensures.log)
    c.performed-outcome.ensures.bare c.performed-outcome.ensures.ready
    (c.performed-outcome.ensures.waits (at_moment (led_to c.self.inside.listing) c.args.now) (c.moved.ensures.stands (led_to c.self.inside.listing) c.self.invariant.0.fits.stands)))

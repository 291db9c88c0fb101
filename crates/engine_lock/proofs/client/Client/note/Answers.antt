use Rattle.std.proofs.Common.{◌≡◌, ◌++◌, ◌∷◌, [], ℕ, cond, ap, sym, subst, ◌∙◌, arith}
use Rattle.event_book.specs.Events.{entry, led_to}
use Rattle.event_book.specs.Raising.{rise_of}
use Rattle.engine_lock.specs.Locked.{Caller}
use Rattle.engine_lock.specs.Makings.{event_made, outcome_made}
use Rattle.engine_lock.proofs.Entered.{note_raises}
use Rattle.engine_lock.proofs.Rising.{raises_most}
use Rattle.engine_lock.proofs.client.Client.note.Goals as goal

pub invariant_of-self : goal.invariant_of-self
invariant_of-self g c =
    let rise : rise_of (led_to c.args.listing.now) (entry c.self.inside.holder.number c.self.inside.about (event_made c.args.made) (outcome_made c.args.made)) ≡ cond c.args.raised 1 0 =
    subst (λ (x : Caller). rise_of (led_to c.args.listing.now) (entry x.holder.number x.about (event_made c.args.made) (outcome_made c.args.made)) ≡ cond c.args.raised 1 0)
    (sym c.self.view_is) c.requires.rises in
    let front : c.enter.new.holder.front ≡ c.args.listing.now ++ entry c.self.inside.holder.number c.self.inside.about (event_made c.args.made) (outcome_made c.args.made) ∷ [] =
    c.enter.ensures.front ∙ c.enter.ensures.log
    ∙ ap (λ (n : ℕ). c.args.listing.now ++ entry n c.self.inside.about (event_made c.args.made) (outcome_made c.args.made) ∷ []) c.number.ensures.number in
    let more = note_raises g.L.ListName.ids c.self.inside.holder c.enter.new.holder c.self.inside.about (event_made c.args.made) (outcome_made c.args.made)
    c.enter.ensures.adds c.args.listing.now 1 front (rise ∙ ap (λ b. cond b 1 0) c.if-raised.true) in
    (omega (arith, c.self.invariant.0, more), c.self.invariant.1)

pub invariant_of-self-else-raised : goal.invariant_of-self-else-raised
invariant_of-self-else-raised g c =
    let rise : rise_of (led_to c.args.listing.now) (entry c.self.inside.holder.number c.self.inside.about (event_made c.args.made) (outcome_made c.args.made)) ≡ cond c.args.raised 1 0 =
    subst (λ (x : Caller). rise_of (led_to c.args.listing.now) (entry x.holder.number x.about (event_made c.args.made) (outcome_made c.args.made)) ≡ cond c.args.raised 1 0)
    (sym c.self.view_is) c.requires.rises in
    let front : c.enter.new.holder.front ≡ c.args.listing.now ++ entry c.self.inside.holder.number c.self.inside.about (event_made c.args.made) (outcome_made c.args.made) ∷ [] =
    c.enter.ensures.front ∙ c.enter.ensures.log
    ∙ ap (λ (n : ℕ). c.args.listing.now ++ entry n c.self.inside.about (event_made c.args.made) (outcome_made c.args.made) ∷ []) c.number.ensures.number in
    let more = note_raises g.L.ListName.ids c.self.inside.holder c.enter.new.holder c.self.inside.about (event_made c.args.made) (outcome_made c.args.made)
    c.enter.ensures.adds c.args.listing.now 0 front (rise ∙ ap (λ b. cond b 1 0) c.if-raised.false) in
    (omega (arith, c.self.invariant.0, more), c.self.invariant.1)

pub overflow_add-self : goal.overflow_add-self
overflow_add-self g c =
    let rise : rise_of (led_to c.args.listing.now) (entry c.self.inside.holder.number c.self.inside.about (event_made c.args.made) (outcome_made c.args.made)) ≡ cond c.args.raised 1 0 =
    subst (λ (x : Caller). rise_of (led_to c.args.listing.now) (entry x.holder.number x.about (event_made c.args.made) (outcome_made c.args.made)) ≡ cond c.args.raised 1 0)
    (sym c.self.view_is) c.requires.rises in
    let front : c.enter.new.holder.front ≡ c.args.listing.now ++ entry c.self.inside.holder.number c.self.inside.about (event_made c.args.made) (outcome_made c.args.made) ∷ [] =
    c.enter.ensures.front ∙ c.enter.ensures.log
    ∙ ap (λ (n : ℕ). c.args.listing.now ++ entry n c.self.inside.about (event_made c.args.made) (outcome_made c.args.made) ∷ []) c.number.ensures.number in
    let more = note_raises g.L.ListName.ids c.self.inside.holder c.enter.new.holder c.self.inside.about (event_made c.args.made) (outcome_made c.args.made)
    c.enter.ensures.adds c.args.listing.now 1 front (rise ∙ ap (λ b. cond b 1 0) c.if-raised.true) in
    omega (arith, c.self.invariant.0, more, raises_most c.enter.new.holder, c.made-events.ensures.made, c.made-events.type_inv)

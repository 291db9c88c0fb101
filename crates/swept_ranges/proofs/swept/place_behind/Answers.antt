-- The last that begins with the range's first key or before it decides.
use Rattle.std.proofs.Common.{◌≡◌, ◌<◌, false, true, sym, ◌∙◌, ap, arith}
use Rattle.kv_model.specs.Keys.{same_key}
use Rattle.swept_ranges.specs.Ends.{end_of, reaches, start_of}
use Rattle.swept_ranges.proofs.Order.{fits-behind, fits-first}
use Rattle.swept_ranges.proofs.swept.place_behind.Goals as goal

pub returns-then-count-eq0 : goal.returns-then-count-eq0
returns-then-count-eq0 c = λ h o e.
    let none : c.args.count ≡ 0 = omega (arith, c.if-count-eq0.true) in
    fits-first c.args.range.now c.args.swept.now h o (e ∙ none)

pub returns-then-eq : goal.returns-then-eq
returns-then-eq c = λ h o e.
    let r = c.args.range.now in
    let d = c.index-swept-count.result in
    let some : 0 < c.args.count = omega (arith, c.if-count-eq0.false) in
    fits-behind r c.args.swept.now c.args.count d c.index-swept-count.is some h o e
    (ap (reaches d.now) (sym c.end_of.ensures) ∙ sym c.reaches.ensures ∙ c.if-reaches.false) true
    (ap (λ k. same_key k (start_of r)) (sym c.start_of.ensures) ∙ ap (same_key c.start_of.result.now) (sym c.start_of-2.ensures)
    ∙ sym c.eq.ensures ∙ c.if-eq.true)

pub returns : goal.returns
returns c = λ h o e.
    let r = c.args.range.now in
    let d = c.index-swept-count.result in
    let some : 0 < c.args.count = omega (arith, c.if-count-eq0.false) in
    fits-behind r c.args.swept.now c.args.count d c.index-swept-count.is some h o e
    (ap (reaches d.now) (sym c.end_of.ensures) ∙ sym c.reaches.ensures ∙ c.if-reaches.false) false
    (ap (λ k. same_key k (start_of r)) (sym c.start_of.ensures) ∙ ap (same_key c.start_of.result.now) (sym c.start_of-2.ensures)
    ∙ sym c.eq.ensures ∙ c.if-eq.false)

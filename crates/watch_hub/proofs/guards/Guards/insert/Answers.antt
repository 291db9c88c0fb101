use Rattle.std.proofs.Common.{◌≡◌, ◌≤◌, ◌==◌, length, List, cond, Some, ◌∙◌, ap, subst, sym}
use Rattle.std.specs.List.{insert}
use Rattle.watch_hub.specs.declared.guards.Guard.{Guard}
use Rattle.watch_hub.specs.Guards.{first_key, range_at, AreBacks, AreFar, AreBegun, AreInOrder, AreToCome}
use Rattle.watch_hub.proofs.Guarding.{order-insert, range-insert}
use Rattle.watch_hub.proofs.guards.Guards.insert.Goals as goal

pub invariant_of-self-2 : goal.invariant_of-self-2
invariant_of-self-2 c =
    let gs = c.self.inside.guards.items in
    let i = c.count_begun-index.result in
    let key = c.first_key.result.now in
    let g : Guard = record { range = c.args.range; place = c.args.place } in
    let items : c.insert.new.self.items ≡ insert gs i g = c.in_ok-insert.ensures.items in
    let bound : i ≤ length gs = subst (λ xs. i ≤ length xs) c.deref.ensures.value c.count_begun-index.ensures.bound in
    let before : AreBegun gs (first_key c.args.range) i
    = subst (λ k. AreBegun gs k i) c.first_key.ensures (subst (λ xs. AreBegun xs key i) c.deref.ensures.value c.count_begun-index.ensures.before) in
    let behind : AreToCome gs (first_key c.args.range) i
    = subst (λ k. AreToCome gs k i) c.first_key.ensures (subst (λ xs. AreToCome xs key i) c.deref.ensures.value c.count_begun-index.ensures.behind) in
    record {
      ordered = subst AreInOrder (sym items) (order-insert gs i g c.self.invariant.ordered bound before behind);
      count = c.set_backs.ensures.count ∙ ap (λ (xs : List Guard). length xs) c.deref-2.ensures.value;
      backs = subst (λ xs. AreBacks xs c.set_backs.new.backs.items (length xs)) c.deref-2.ensures.value c.set_backs.ensures.backs;
      far = subst (λ xs. AreFar xs c.set_backs.new.backs.items (length xs)) c.deref-2.ensures.value c.set_backs.ensures.far;
    }

pub returns-clause-ok : goal.returns-clause-ok
returns-clause-ok c = λ h p.
    let gs = c.self.inside.guards.items in
    let i = c.count_begun-index.result in
    let g : Guard = record { range = c.args.range; place = c.args.place } in
    let items : c.insert.new.self.items ≡ insert gs i g = c.in_ok-insert.ensures.items in
    ap (range_at p) items ∙ range-insert gs i g (ap (range_at c.args.place) c.self.view_is ∙ h) p
    ∙ ap (λ xs. cond (c.args.place == p) (Some c.args.range) (range_at p xs)) c.self.view_is

use Rattle.std.proofs.Common.{◌≡◌, ◌==◌, length, List, filter, not, rules, ◌∙◌, ap, subst, sym}
use Rattle.std.proofs.lemmas.Fn.{filter_same}
use Rattle.watch_hub.specs.declared.guards.Guard.{Guard}
use Rattle.watch_hub.specs.Guards.{AreBacks, AreFar, AreInOrder}
use Rattle.watch_hub.proofs.Guarding.{order-filter}
use Rattle.watch_hub.proofs.guards.Guards.remove.Goals as goal

pub invariant_of-self : goal.invariant_of-self
invariant_of-self c =
    let items : c.retain.new.self.items ≡ filter (λ g. not (g.place == c.args.place)) c.self.inside.guards.items
    = filter_same _ (λ g. not (g.place == c.args.place)) _ (λ x b f' k. search rules) _ _ c.retain.ensures.filtered in
    record {
      ordered = subst AreInOrder (sym items) (order-filter (λ g. not (g.place == c.args.place)) c.self.inside.guards.items c.self.invariant.ordered);
      count = c.set_backs.ensures.count ∙ ap (λ (xs : List Guard). length xs) c.deref.ensures.value;
      backs = subst (λ xs. AreBacks xs c.set_backs.new.backs.items (length xs)) c.deref.ensures.value c.set_backs.ensures.backs;
      far = subst (λ xs. AreFar xs c.set_backs.new.backs.items (length xs)) c.deref.ensures.value c.set_backs.ensures.far;
    }

pub returns : goal.returns
returns c =
    filter_same _ (λ g. not (g.place == c.args.place)) _ (λ x b f' k. search rules) _ _ c.retain.ensures.filtered
    ∙ ap (λ gs. filter (λ g. not (g.place == c.args.place)) gs) c.self.view_is

-- The revisions still rise, and a list is no shorter.
use Rattle.std.proofs.Common.{◌++◌, ◌∷◌, [], ◌∙◌, ap, arith}
use Rattle.std.proofs.lemmas.List.{length-append}
use Rattle.store_laws.proofs.Rising.{rising-push}
use Rattle.key_index.proofs.revisions.Revisions.push.Goals as goal

pub invariant_of-self-in_ok-push_back-in-Many : goal.invariant_of-self-in_ok-push_back-in-Many
invariant_of-self-in_ok-push_back-in-Many c =
    let grown = c.in_ok-push_back-in-Many.ensures.items ∙ ap (λ q. q.items ++ c.args.rev ∷ []) c.deref_mut.ensures.value in
    rw grown (
      rising-push (λ q. q) _ _ (rw c.in-Many.is at c.self.invariant).0 (rw (← c.self.view_is, c.in-Many.is) at c.requires),
      let both = length-append c.in-Many.revisions.value.items (c.args.rev ∷ []) in
          let two = (rw c.in-Many.is at c.self.invariant).1 in
          omega arith,
    )

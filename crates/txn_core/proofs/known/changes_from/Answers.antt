-- One version after another, the changes are listed.
use Rattle.std.proofs.Common.{◌++◌, ◌∷◌, [], map, sym, ◌∙◌, ap, append_assoc, subst, arith}
use Rattle.std.proofs.lemmas.List.{map-append}
use Rattle.txn_core.specs.Known.{AreNumbered}
use Rattle.txn_core.proofs.Numbering.{numbered-snoc}
use Rattle.txn_core.proofs.known.changes_from.Goals as goal

pub loop-version-preserved : goal.loop-version-preserved
loop-version-preserved c =
    let at = c.loop-version in
    let had = map (λ w. w.now) at.changes.items in
    let rest = c.next.new.self in
    record {
      all = ap (λ ws. map (λ w. w.now) ws ++ rest) c.in_ok-push.ensures.items ∙ ap (λ vs. vs ++ rest) (map-append (λ w. w.now) at.changes.items (c.in-Some.version ∷ []))
          ∙ append_assoc had (c.in-Some.version.now ∷ []) rest ∙ ap (λ vs. had ++ vs) (sym c.in-Some.ensures) ∙ at.invariant.all;
      numbered = subst (AreNumbered 0) (sym c.in_ok-push.ensures.items)
          (numbered-snoc 0 at.changes.items c.in-Some.version at.invariant.numbered (omega (arith, c.len.ensures, c.if-version-len.false, at.changes.ok)));
    }

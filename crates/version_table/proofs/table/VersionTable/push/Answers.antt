-- The list still rises, and is one longer.
use Rattle.std.proofs.Common.{◌≡◌, ◌+◌, ◌++◌, ◌∷◌, [], List, length, sym, ◌∙◌, ap, subst, arith}
use Rattle.std.proofs.lemmas.List.{length_push}
use Rattle.kv_model.specs.declared.version.Version.{Version}
use Rattle.store_laws.proofs.Rising.{rising-push}
use Rattle.version_table.specs.Paged.{Fit, HaveVersions, flat}
use Rattle.version_table.specs.Rising.{IsBehind, IsRising, rev_of}
use Rattle.version_table.proofs.PageChanges.{fit-pushed, flat-pushed, held-pushed}
use Rattle.version_table.proofs.table.VersionTable.push.Goals as goal

pub invariant_of-self-2 : goal.invariant_of-self-2
invariant_of-self-2 c =
    let ps = c.self.inside.pages.items in
    let v = c.args.version in
    let behind : IsBehind v.rev (flat ps) = rw (← c.self.view_is) at c.requires in
    let whole : flat c.push.new.pages.items ≡ flat ps ++ v ∷ [] = ap flat c.in_ok-push.ensures.ok ∙ flat-pushed v ps in
    let longer : length (flat c.push.new.pages.items) ≡ length (flat ps) + 1 = ap length whole ∙ length_push (flat ps) v in
    record {
      rising = subst IsRising (sym whole) (rising-push rev_of (flat ps) v c.self.invariant.rising behind);
      held = subst HaveVersions (sym c.in_ok-push.ensures.ok) (held-pushed v ps c.self.invariant.held);
      fit = subst Fit (sym c.in_ok-push.ensures.ok) (fit-pushed v ps c.self.invariant.fit);
      spare = c.in_ok-push.ensures.spare;
      counted = omega (arith, longer, c.in-Some.ensures.1, c.self.invariant.counted);
    }

pub returns-clause-ok : goal.returns-clause-ok
returns-clause-ok c =
    ap flat c.in_ok-push.ensures.ok ∙ flat-pushed c.args.version c.self.inside.pages.items
    ∙ ap (λ (vs : List Version). vs ++ c.args.version ∷ []) c.self.view_is

-- All changes from a number on, up to another, are of keys of the range.
use Rattle.std.proofs.Common.{Bool, ◌≡◌, not, true, false, refl, sym, ◌∙◌}
use Rattle.txn_core.proofs.Numbering.{none-between}
use Rattle.txn_core.proofs.known.strays_some.Goals as goal

holds : (b : Bool) → not b ≡ false → b ≡ true
holds true e = refl
holds false e = cc

pub returns : goal.returns
returns c = λ f.
    none-between c.args.range.now c.args.changes.now c.args.sub c.args.next c.requires.changes
    (sym c.are_all_in.ensures ∙ holds c.are_all_in.result f)

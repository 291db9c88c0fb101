-- Where no later main revision was added there is none.
use Rattle.std.proofs.Common.{sym, ◌∙◌, ap}
use Rattle.std.proofs.lemmas.Bool.{le-leb}
use Rattle.key_index.specs.Index.{is_up_to}
use Rattle.key_index.proofs.Bounds.{bound-up_to}
use Rattle.key_index.proofs.index.KeyIndex.is_up_to.Goals as goal

pub returns-then-main-self : goal.returns-then-main-self
returns-then-main-self c =
    let n = c.self.inside.newest in
    le-leb n c.args.main c.if-main-self.true
    ∙ sym (ap (is_up_to c.args.main) (sym c.self.view_is) ∙ bound-up_to n c.args.main _ c.if-main-self.true c.self.invariant.1)

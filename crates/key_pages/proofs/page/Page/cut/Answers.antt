-- The key is there, or nothing changes.
use Rattle.std.proofs.Common.{sym, ◌∙◌}
use Rattle.key_pages.proofs.Places.{absent-cut, absent-told, left-cut, left-told}
use Rattle.key_pages.proofs.page.Page.cut.Goals as goal

pub returns-then-is_there-clause-pairs : goal.returns-then-is_there-clause-pairs
returns-then-is_there-clause-pairs g c =
    left-cut c.args.key.now c.args.self.now c.requires c.count_below-index.result c.count_below-index.ensures.value
    (g.C.Cut.left c.args.cut.now) (g.C.Cut.is_spent c.args.cut.now) _ (sym c.is_there.ensures ∙ c.if-is_there.true) c.cut_there.ensures.pairs

pub returns-then-is_there-clause-told : goal.returns-then-is_there-clause-told
returns-then-is_there-clause-told g c =
    left-told c.args.key.now c.args.self.now c.requires c.count_below-index.result c.count_below-index.ensures.value
    (g.C.Cut.told c.args.cut.now) c.args.cut.now _ (sym c.is_there.ensures ∙ c.if-is_there.true) c.cut_there.ensures.told

pub returns-else-is_there-clause-pairs : goal.returns-else-is_there-clause-pairs
returns-else-is_there-clause-pairs g c =
    absent-cut c.args.key.now c.args.self.now c.requires c.count_below-index.result c.count_below-index.ensures.value
    (g.C.Cut.left c.args.cut.now) (g.C.Cut.is_spent c.args.cut.now) (sym c.is_there.ensures ∙ c.if-is_there.false)

pub returns-else-is_there-clause-told : goal.returns-else-is_there-clause-told
returns-else-is_there-clause-told g c =
    absent-told c.args.key.now c.args.self.now c.requires c.count_below-index.result c.count_below-index.ensures.value
    (g.C.Cut.told c.args.cut.now) c.args.cut.now (sym c.is_there.ensures ∙ c.if-is_there.false)

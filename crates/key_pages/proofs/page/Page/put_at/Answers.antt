-- The key is there, and its value grows, or it goes in at its place.
use Rattle.std.proofs.Common.{sym, ◌∙◌}
use Rattle.key_pages.proofs.Places.{grown-ok, first-ok, place-value, there-key}
use Rattle.key_pages.proofs.page.Page.put_at.Goals as goal

pub grow_at-requires-clause-same : goal.grow_at-requires-clause-same
grow_at-requires-clause-same g c = λ d.
    there-key c.args.key.now c.args.index c.args.self.now d (sym c.is_there.ensures ∙ c.if-is_there.true)

pub grow_at-requires-clause-may : goal.grow_at-requires-clause-may
grow_at-requires-clause-may g c = λ d. c.requires.may _
    (place-value c.args.key.now c.args.self.now c.requires.ascending c.args.index c.requires.index d (sym c.is_there.ensures ∙ c.if-is_there.true))

pub returns-then-is_there-clause-ok : goal.returns-then-is_there-clause-ok
returns-then-is_there-clause-ok g c =
    grown-ok c.args.key.now c.args.self.now c.requires.ascending c.args.index c.requires.index
    (g.G.Growth.grown c.args.growth.now) (g.G.Growth.fresh c.args.growth.now) _ (sym c.is_there.ensures ∙ c.if-is_there.true) c.grow_at.result c.grow_at.ensures.ok

pub returns-else-is_there-clause-ok : goal.returns-else-is_there-clause-ok
returns-else-is_there-clause-ok g c =
    first-ok c.args.key.now c.args.self.now c.requires.ascending c.args.index c.requires.index
    (g.G.Growth.grown c.args.growth.now) (g.G.Growth.fresh c.args.growth.now) c.first.result c.first.ensures _ (sym c.is_there.ensures ∙ c.if-is_there.false)
    c.insert_at.result c.insert_at.ensures.ok

-- The version at the revision that the index has is the last one of the key.
use Rattle.std.proofs.Common.{◌∙◌, ap, sym}
use Rattle.std.specs.Prelude.{option_and_then}
use Rattle.version_table.proofs.Changes.{find-latest}
use Rattle.key_index.specs.Agrees.{read_at}
use Rattle.key_index.proofs.Walks.{value-agrees}
use Rattle.range_view.proofs.view.View.read.Goals as goal

pub returns-in-Some : goal.returns-in-Some
returns-in-Some c =
    let vs = c.self.inside.table.now in
    rw (← c.self.view_is) (c.held.ensures.value ∙ ap (option_and_then (read_at vs)) (sym c.in-Some.is ∙ c.at.ensures)
    ∙ sym (value-agrees c.self.inside.index.now vs c.args.place c.args.key.now c.self.invariant.agrees (find-latest vs c.self.invariant.rising)))

pub returns-in-None : goal.returns-in-None
returns-in-None c =
    let vs = c.self.inside.table.now in
    rw (← c.self.view_is) (ap (option_and_then (read_at vs)) (sym c.in-None.is ∙ c.at.ensures)
    ∙ sym (value-agrees c.self.inside.index.now vs c.args.place c.args.key.now c.self.invariant.agrees (find-latest vs c.self.invariant.rising)))

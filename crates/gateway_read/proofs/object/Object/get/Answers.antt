use Rattle.std.proofs.Common.{sym, ◌∙◌}
use Rattle.gateway_read.specs.Lengths.{place_of}
use Rattle.gateway_read.specs.Objects.{seen}
use Rattle.gateway_read.proofs.Marks.{absent}
use Rattle.gateway_read.proofs.object.Object.get.Goals as goal

pub returns-else-self-place : goal.returns-else-self-place
returns-else-self-place c =
    let name = c.args.name.now in
    sym (absent name (seen c.args.self.now)
    (sym (c.args.self.now.marked (place_of name)) ∙ rw (← c.place.ensures) c.if-self-place.false))

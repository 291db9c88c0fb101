use Rattle.std.proofs.Common.{◌∙◌, ap}
use Rattle.watch_streams.specs.Lines.{is_out}
use Rattle.watch_streams.proofs.Tests.{tail_empty}
use Rattle.watch_streams.proofs.line.Line.is_out.Goals as goal

pub returns : goal.returns
returns g c = (rw c.deref.ensures.value at c.is_empty.ensures) ∙ tail_empty c.self.inside.sent c.self.inside.rest.items ∙ ap is_out c.self.view_is

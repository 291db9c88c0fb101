use Rattle.std.proofs.Common.{◌∙◌}
use Rattle.gateway_read.proofs.Signs.{some-first, some-last}
use Rattle.gateway_read.proofs.symbols.signs_of.Goals as goal

pub returns-clause-url : goal.returns-clause-url
returns-clause-url c = c.is_some.ensures ∙ some-first _ _ _ c.memchr2-url.ensures

pub returns-clause-padding : goal.returns-clause-padding
returns-clause-padding c = c.is_some-2.ensures ∙ some-last _ _ _ c.memrchr-padding.ensures

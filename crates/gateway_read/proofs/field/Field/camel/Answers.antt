use Rattle.std.proofs.Common.{◌∙◌}
use Rattle.gateway_read.proofs.Spellings.{camel_of-snake_of}
use Rattle.gateway_read.proofs.field.Field.camel.Goals as goal

pub returns-clause-camel : goal.returns-clause-camel
returns-clause-camel c = c.spelled_in_camel_case.ensures ∙ camel_of-snake_of c.args.self

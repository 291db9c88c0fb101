use Rattle.base64.specs.GeneralPurpose.{decoded_of}
use Rattle.gateway_read.proofs.symbols.append_with.Goals as goal

pub returns-then-padding-clause-value : goal.returns-then-padding-clause-value
unfolding decoded_of
returns-then-padding-clause-value c = rw c.if-padding.true c.append_by.ensures.value

pub returns-else-padding-clause-value : goal.returns-else-padding-clause-value
unfolding decoded_of
returns-else-padding-clause-value c = rw c.if-padding.false c.append_by-else-padding.ensures.value

-- Bytes that are no text, or what the reading of the text came to.
use Rattle.std.proofs.Common.{refl}
use Rattle.gateway_read.proofs.Bodies.{json_of-none, json_of-checked}
use Rattle.gateway_read.proofs.body.value_in.Goals as goal

pub returns-in-Err-clause-gives : goal.returns-in-Err-clause-gives
returns-in-Err-clause-gives c = rw (json_of-none c.args.text.now c.in-Err.ensures.cases.0) refl

pub returns-in-Ok-clause-gives : goal.returns-in-Ok-clause-gives
returns-in-Ok-clause-gives c =
    let text = c.in-Ok.ensures.cases in
    json_of-checked c.args.text.now c.in-Ok.text.now c.whole.result c.with_numbers.result text.1 text.0 c.whole.ensures.ok c.whole.ensures.err
    c.with_numbers.ensures

pub returns-in-Ok-clause-not_text : goal.returns-in-Ok-clause-not_text
returns-in-Ok-clause-not_text c = λ none. absurd (none c.in-Ok.ensures.cases.1)

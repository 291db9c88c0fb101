use Rattle.std.proofs.Common.{◌∙◌, ap₂}
use Rattle.std.proofs.lemmas.Result.{IfOk-weaker}
use Rattle.clap.specs.Simple.{with_rule}
use Rattle.command_words.specs.Arguments.{serving}
use Rattle.command_words.proofs.words.serve_command.Goals as goal

pub returns : goal.returns
unfolding serving
returns c =
    let one = c.in_ok-arg.ensures.shape c.address.ensures.local ∙ ap₂ with_rule c.new.ensures.app c.address.ensures.rule in
    let two = c.in_ok-arg-2.ensures.shape c.number.ensures.local ∙ ap₂ with_rule one c.number.ensures.rule in
    let three = c.in_ok-arg-3.ensures.shape c.number-2.ensures.local ∙ ap₂ with_rule two c.number-2.ensures.rule in
    let four = c.in_ok-arg-4.ensures.shape c.number-3.ensures.local ∙ ap₂ with_rule three c.number-3.ensures.rule in
    let five = c.in_ok-arg-5.ensures.shape c.number-4.ensures.local ∙ ap₂ with_rule four c.number-4.ensures.rule in
    let six = c.in_ok-arg-6.ensures.shape c.switch.ensures.local ∙ ap₂ with_rule five c.switch.ensures.rule in
    let seven = c.in_ok-arg-7.ensures.shape c.text.ensures.local ∙ ap₂ with_rule six c.text.ensures.rule in
    IfOk-weaker c.arg-8.result _ _ (λ r h. h.shape c.text-2.ensures.local ∙ ap₂ with_rule seven c.text-2.ensures.rule) c.arg-8.ensures

use Rattle.std.proofs.Common.{◌∙◌, ap₂}
use Rattle.std.proofs.lemmas.Result.{IfOk-weaker}
use Rattle.clap.specs.Simple.{with_rule}
use Rattle.command_words.specs.Arguments.{replaying}
use Rattle.command_words.proofs.replaying.replay_command.Goals as goal

pub returns : goal.returns
unfolding replaying
returns c =
    let one = c.in_ok-arg.ensures.shape c.number.ensures.local ∙ ap₂ with_rule c.new.ensures.app c.number.ensures.rule in
    IfOk-weaker c.arg-2.result _ _ (λ r h. h.shape c.number-2.ensures.local ∙ ap₂ with_rule one c.number-2.ensures.rule) c.arg-2.ensures

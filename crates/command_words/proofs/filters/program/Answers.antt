use Rattle.std.proofs.Common.{◌≡◌, ap, ap₂, ◌∙◌}
use Rattle.std.proofs.lemmas.Result.{IfOk-weaker}
use Rattle.clap.specs.Simple.{App, app_of, app_of_fields, with_subcommand}
use Rattle.std.proofs.Common.{codes}
use Rattle.clap.specs.Simple.{new_app}
use Rattle.command_words.specs.declared.filters.Filter.TheVariants as filter
use Rattle.command_words.specs.Arguments.{program, requiring, with_command}
use Rattle.command_words.proofs.filters.program.Goals as goal

pub returns : goal.returns
unfolding program
returns c =
    let first : app_of c.in_ok-subcommand.field-0 ≡ with_command filter.Replay (requiring (new_app (codes "etcd_one"))) = c.in_ok-subcommand.ensures.shape c.new-replay.ensures.local
    ∙ ap₂ with_subcommand (ap app_of_fields c.subcommand_required.ensures ∙ ap requiring c.new.ensures.app)
    (ap (λ (a : App). a.top) c.new-replay.ensures.app) in
    IfOk-weaker c.subcommand-2.result _ _ (λ r h. h.shape c.new-check.ensures.local
    ∙ ap₂ with_subcommand first (ap (λ (a : App). a.top) c.new-check.ensures.app)) c.subcommand-2.ensures

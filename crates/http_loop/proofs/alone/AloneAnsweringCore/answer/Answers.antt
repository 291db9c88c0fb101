use Rattle.http_input.specs.Inputs.{request_view}
use Rattle.http_loop.proofs.Worlds.{answers}
use Rattle.http_loop.proofs.alone.AloneAnsweringCore.answer.Goals as goal

pub returns : goal.returns
returns c =
    answers (request_view c.args.request.now) c.command_path.result.now c.post_and_trim-outcome.result _ _ c.command_path.ensures c.post_and_trim-outcome.ensures.steps
    c.post_and_trim-outcome.ensures.bare c.fit.ensures

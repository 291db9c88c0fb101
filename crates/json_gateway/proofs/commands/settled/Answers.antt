use Rattle.std.proofs.Common.{refl}
use Rattle.kv_model.specs.Answers.{success_response}
use Rattle.request_core.specs.Answers.{answer_of, has_changed}
use Rattle.json_gateway.proofs.Settling.{answer_settles}
use Rattle.json_gateway.proofs.commands.settled.Goals as goal

pub returns : goal.returns
returns c =
    answer_settles c.answer_text.result c.answered.result (success_response c.args.ids.now (answer_of c.args.receipt.now c.args.core.now))
    (has_changed c.args.receipt.now) c.args.receipt.now.revision refl c.answer_text.ensures c.answered.ensures

use Rattle.gateway_text.specs.Views.{wording_view}
use Rattle.json_gateway.proofs.Settling.{wording_refuses}
use Rattle.json_gateway.proofs.commands.refused.Goals as goal

pub returns : goal.returns
returns c = wording_refuses c.refusal_text.result c.worded.result (wording_view c.args.wording.now) c.refusal_text.ensures c.worded.ensures

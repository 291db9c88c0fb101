use Rattle.std.proofs.Common.{option_map, ap, ◌∙◌}
use Rattle.json.specs.Value.{value_view}
use Rattle.gateway_read.specs.Values.{data_of}
use Rattle.gateway_read.proofs.Values.{viewed, found-data}
use Rattle.gateway_read.proofs.object.member.Goals as goal

pub returns : goal.returns
returns c = viewed c.get.result ∙ ap (option_map data_of) c.get.ensures ∙ found-data c.args.name.now (value_view c.args.value.now)

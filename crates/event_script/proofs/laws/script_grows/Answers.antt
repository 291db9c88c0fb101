use Rattle.event_script.proofs.Growing.{script_grows}
use Rattle.event_script.proofs.laws.script_grows.Goals as goal

pub returns : goal.returns
returns c = script_grows

use Rattle.event_script.proofs.Leading.{script_leads}
use Rattle.event_script.proofs.laws.script_leads.Goals as goal

pub returns : goal.returns
returns c = script_leads

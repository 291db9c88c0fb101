use Rattle.event_script.proofs.Leading.{written_leads}
use Rattle.event_script.proofs.laws.written_leads.Goals as goal

pub returns : goal.returns
returns c = written_leads

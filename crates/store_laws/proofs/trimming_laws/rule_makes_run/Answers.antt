use Rattle.store_laws.proofs.RuleRuns.{rule-run}
use Rattle.store_laws.proofs.trimming_laws.rule_makes_run.Goals as goal

pub returns : goal.returns
returns c = rule-run

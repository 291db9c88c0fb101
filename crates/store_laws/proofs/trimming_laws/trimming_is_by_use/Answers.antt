use Rattle.store_laws.proofs.UseLaws.{by-use}
use Rattle.store_laws.proofs.trimming_laws.trimming_is_by_use.Goals as goal

pub returns : goal.returns
returns c = by-use

use Rattle.store_laws.proofs.CertificateLaws.{settled-certified}
use Rattle.store_laws.proofs.trimming_laws.settled_is_certified.Goals as goal

pub returns : goal.returns
returns c = settled-certified

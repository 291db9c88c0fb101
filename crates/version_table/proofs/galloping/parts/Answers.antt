use Rattle.std.proofs.Common.{subst}
use Rattle.version_table.specs.Paged.{HaveVersions, flat}
use Rattle.version_table.specs.Rising.{IsRising}
use Rattle.version_table.proofs.PageParts.{rising-parts, held-parts}
use Rattle.version_table.proofs.galloping.parts.Goals as goal

pub returns-clause-rising : goal.returns-clause-rising
returns-clause-rising c = rising-parts c.split_at.result.0.now c.split_at.result.1.now (subst (λ ps. IsRising (flat ps)) c.split_at.ensures.by_index.0 c.requires.rising)

pub returns-clause-held : goal.returns-clause-held
returns-clause-held c = held-parts c.split_at.result.0.now c.split_at.result.1.now (subst HaveVersions c.split_at.ensures.by_index.0 c.requires.held)

-- The first version from the place on is at or below the compaction.
use Rattle.std.proofs.Common.{◌∙◌, ap, arith}
use Rattle.std.proofs.lemmas.Bool.Decides.{nat_tests}
use Rattle.trim_core.specs.Steps.{if_by}
use Rattle.trim_core.proofs.Stepping.{some-by}
use Rattle.trim_core.proofs.rule.next_version.Goals as goal

pub returns-in-Some-clause-value : goal.returns-in-Some-clause-value
returns-in-Some-clause-value c =
    some-by c.args.compacted c.in-Some.version.now (grind (arith, nat_tests, c.if-version-compacted.true))
    ∙ ap (if_by c.args.compacted) c.in-Some.ensures.value

-- The next version of the key is looked for among those from its revision on.
use Rattle.std.proofs.Common.{◌∙◌, ap}
use Rattle.witness_core.specs.Making.{is_first_by}
use Rattle.witness_core.proofs.Kept.{superseded-own}
use Rattle.witness_core.proofs.making.is_superseded.Goals as goal

pub returns : goal.returns
returns c =
    c.is_first_by.ensures ∙ ap (is_first_by c.args.version.now.rev c.args.revision) c.versions_of-versions.ensures.value
    ∙ superseded-own c.args.view.now.versions c.args.version.now c.args.revision c.versions_of-versions.ensures.rising

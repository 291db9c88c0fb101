-- What is cut out is the part.
use Rattle.std.proofs.Common.{◌≡◌, ◌∙◌}
use Rattle.live_keys.specs.Parts.{of_part}
use Rattle.live_keys.proofs.Neighbours.{between-slice}
use Rattle.live_keys.proofs.Within.{if_ok-map}
use Rattle.live_keys.proofs.lending.part_copied.Goals as goal

pub returns : goal.returns
returns c =
    let p = c.args.part in
    if_ok-map _ (λ v. v.items ≡ of_part p c.args.kvs.now) (λ v e. e ∙ between-slice p.from p.to c.args.kvs.now c.requires.rises)
    c.copied.result c.copied.ensures

-- What is cut out is the part.
use Rattle.std.proofs.Common.{◌∙◌, ap}
use Rattle.std.specs.List.{list_all}
use Rattle.live_keys.specs.Extremes.{passes}
use Rattle.live_keys.proofs.Neighbours.{between-slice}
use Rattle.live_keys.proofs.listed.each_relates.Goals as goal

pub returns : goal.returns
returns c = c.all_of.ensures ∙ ap (list_all (passes c.args.compare.now)) (between-slice c.args.part.from c.args.part.to c.args.kvs.now c.requires.rises)

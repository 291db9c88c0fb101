-- How a need of the program is seen as the model's.
use Rattle.kv_model.specs.Certificates as model
use Rattle.witness_core.specs.declared.certificate.Need.{Need}
use Rattle.witness_core.specs.declared.certificate.Need.TheVariants.{Range, Watch, Prev}

abbrev pub seen_need : Need → model.Need
seen_need (Range r) = model.Need.range r
seen_need (Watch r) = model.Need.watch r
seen_need (Prev r) = model.Need.prev r

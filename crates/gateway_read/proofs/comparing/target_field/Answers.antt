use Rattle.std.proofs.Common.{ℕ, List, [], ◌∷◌}
use Rattle.std.specs.Prelude.{codes}
use Rattle.gateway_read.specs.declared.comparing.Target.{Target}
use Rattle.gateway_read.specs.declared.comparing.Target.TheVariants.{Version, Create, Mod, Value, Lease}
use Rattle.gateway_read.specs.declared.field.Field.TheVariants as field
use Rattle.gateway_read.specs.Compares.{target_of}
use Rattle.gateway_read.specs.Objects.{seen}
use Rattle.gateway_read.specs.Fields.{snake_of}
use Rattle.gateway_read.proofs.Enums.{field_under}
use Rattle.gateway_read.proofs.comparing.target_field.Goals as goal

abbrev table : List (List ℕ × Target)
table = (codes "VERSION", Version) ∷ (codes "CREATE", Create) ∷ (codes "MOD", Mod) ∷ (codes "VALUE", Value) ∷ (codes "LEASE", Lease) ∷ []

pub returns : goal.returns
returns c = field_under target_of Version table (snake_of field.Target) (seen c.args.object.now) c.enum_field.result c.enum_field.ensures

-- Parts of the reading of a compare.
use Rattle.std.specs.Prelude.{codes, Ok}
use Rattle.serde_json.specs.Data.{Members}
use Rattle.kv_model.specs.declared.call.Compare.{Compare}
use Rattle.kv_model.specs.declared.call.Operand.{Operand}
use Rattle.kv_model.specs.declared.call.Relation.{Relation}
use Rattle.kv_model.specs.declared.version.KeyRange.{KeyRange}
use Rattle.kv_model.specs.Requests as requests
use Rattle.kv_model.specs.Requests.{Read, ◌>>=◌, integer_field, bytes_field, operand_of}
use Rattle.gateway_read.specs.declared.comparing.Target.{Target}
use Rattle.gateway_read.specs.declared.comparing.Target.TheVariants.{Version, Create, Mod, Value, Lease}

abbrev pub target_of : Target → requests.Target
target_of Version = requests.Target.to_version
target_of Create = requests.Target.to_create
target_of Mod = requests.Target.to_mod
target_of Value = requests.Target.to_value
target_of Lease = requests.Target.to_lease

-- the operand that the target names, where each is read
unfoldable pub operand_read : requests.Target → Members → Read Operand
operand_read target ms = do
  version ← integer_field (codes "version") ms
  create ← integer_field (codes "create_revision") ms
  modified ← integer_field (codes "mod_revision") ms
  value ← bytes_field (codes "value") ms
  lease ← integer_field (codes "lease") ms
  Ok (operand_of target version create modified value lease)

-- the last five fields of a compare, over what the others say
unfoldable pub compared : KeyRange → Relation → requests.Target → Members → Read Compare
compared range relation target ms = do
  version ← integer_field (codes "version") ms
  create ← integer_field (codes "create_revision") ms
  modified ← integer_field (codes "mod_revision") ms
  value ← bytes_field (codes "value") ms
  lease ← integer_field (codes "lease") ms
  Ok (record { range = range; relation = relation; operand = operand_of target version create modified value lease })

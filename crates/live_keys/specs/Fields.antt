-- What compares look at, and how key-values stand by it.
use Rattle.std.specs.declared.cmp.Ordering.{Ordering}
use Rattle.std.specs.Ordering.{nat_cmp, int_cmp}
use Rattle.kv_model.specs.declared.call.Operand.{Operand}
use Rattle.kv_model.specs.declared.call.Operand.TheVariants.{OfVersion, OfCreate, OfMod, OfValue, OfLease}
use Rattle.kv_model.specs.History.{KeyValue}
use Rattle.kv_model.specs.Keys.{key_cmp}
use Rattle.live_keys.specs.declared.field.Field.{Field}
use Rattle.live_keys.specs.declared.field.Field.TheVariants.{Version, Create, Mod, Value, Lease}

abbrev pub field_of : Operand → Field
field_of (OfVersion n) = Version
field_of (OfCreate n) = Create
field_of (OfMod n) = Mod
field_of (OfValue v) = Value
field_of (OfLease n) = Lease

abbrev pub field_cmp : Field → KeyValue → KeyValue → Ordering
field_cmp Version a b = nat_cmp a.version b.version
field_cmp Create a b = nat_cmp a.create b.create
field_cmp Mod a b = nat_cmp a.modified b.modified
field_cmp Value a b = key_cmp a.value b.value
field_cmp Lease a b = int_cmp a.lease b.lease

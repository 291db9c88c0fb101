-- The last seven fields of a Range, in their order.
use Rattle.std.specs.Prelude.{Ok, codes}
use Rattle.serde_json.specs.Data.{Members}
use Rattle.kv_model.specs.declared.call.RangeQuery.{RangeQuery}
use Rattle.kv_model.specs.Requests.{Read, ◌>>=◌, truth_field, integer_field}
use Rattle.gateway_read.specs.declared.requests.Flags.{Flags}
use Rattle.gateway_read.specs.declared.requests.Bounds.{Bounds}

-- how it is answered
unfoldable pub flags_of : Members → Read Flags
flags_of ms = do
  serializable ← truth_field (codes "serializable") ms
  keys_only ← truth_field (codes "keys_only") ms
  count_only ← truth_field (codes "count_only") ms
  Ok (record { serializable = serializable; keys_only = keys_only; count_only = count_only })

-- between which revisions a key is shown
unfoldable pub bounds_of : Members → Read Bounds
bounds_of ms = do
  min_mod ← integer_field (codes "min_mod_revision") ms
  max_mod ← integer_field (codes "max_mod_revision") ms
  min_create ← integer_field (codes "min_create_revision") ms
  max_create ← integer_field (codes "max_create_revision") ms
  Ok (record { min_mod = min_mod; max_mod = max_mod; min_create = min_create; max_create = max_create })

-- a query with these in the place of its own
abbrev pub with_options : RangeQuery → Flags → Bounds → RangeQuery
with_options q f b = record q {
  serializable = f.serializable;
  keys_only = f.keys_only;
  count_only = f.count_only;
  min_mod = b.min_mod;
  max_mod = b.max_mod;
  min_create = b.min_create;
  max_create = b.max_create;
}

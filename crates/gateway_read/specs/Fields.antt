-- How each field of a request is spelled.
use Rattle.std.specs.Prelude.{ℕ, List, codes}
use Rattle.gateway_read.specs.declared.field.Field.{Field}
use Rattle.gateway_read.specs.declared.field.Field.TheVariants.{Key, RangeEnd, Limit, Revision, SortOrder}
use Rattle.gateway_read.specs.declared.field.Field.TheVariants.{SortTarget, Serializable, KeysOnly, CountOnly}
use Rattle.gateway_read.specs.declared.field.Field.TheVariants.{MinModRevision, MaxModRevision, MinCreateRevision}
use Rattle.gateway_read.specs.declared.field.Field.TheVariants.{MaxCreateRevision, Value, Lease, PrevKv}
use Rattle.gateway_read.specs.declared.field.Field.TheVariants.{IgnoreValue, IgnoreLease, Compare, Success}
use Rattle.gateway_read.specs.declared.field.Field.TheVariants.{Failure, Physical, CreateRequest, StartRevision}
use Rattle.gateway_read.specs.declared.field.Field.TheVariants.{Filters, WatchId, Ttl, Id, Keys, Result, Target}
use Rattle.gateway_read.specs.declared.field.Field.TheVariants.{Version, CreateRevision, ModRevision, RequestRange}
use Rattle.gateway_read.specs.declared.field.Field.TheVariants.{RequestPut, RequestDeleteRange, RequestTxn}

-- the name as the etcd documentation has it
unfoldable pub snake_of : Field → List ℕ
snake_of Key = codes "key"
snake_of RangeEnd = codes "range_end"
snake_of Limit = codes "limit"
snake_of Revision = codes "revision"
snake_of SortOrder = codes "sort_order"
snake_of SortTarget = codes "sort_target"
snake_of Serializable = codes "serializable"
snake_of KeysOnly = codes "keys_only"
snake_of CountOnly = codes "count_only"
snake_of MinModRevision = codes "min_mod_revision"
snake_of MaxModRevision = codes "max_mod_revision"
snake_of MinCreateRevision = codes "min_create_revision"
snake_of MaxCreateRevision = codes "max_create_revision"
snake_of Value = codes "value"
snake_of Lease = codes "lease"
snake_of PrevKv = codes "prev_kv"
snake_of IgnoreValue = codes "ignore_value"
snake_of IgnoreLease = codes "ignore_lease"
snake_of Compare = codes "compare"
snake_of Success = codes "success"
snake_of Failure = codes "failure"
snake_of Physical = codes "physical"
snake_of CreateRequest = codes "create_request"
snake_of StartRevision = codes "start_revision"
snake_of Filters = codes "filters"
snake_of WatchId = codes "watch_id"
snake_of Ttl = codes "TTL"
snake_of Id = codes "ID"
snake_of Keys = codes "keys"
snake_of Result = codes "result"
snake_of Target = codes "target"
snake_of Version = codes "version"
snake_of CreateRevision = codes "create_revision"
snake_of ModRevision = codes "mod_revision"
snake_of RequestRange = codes "request_range"
snake_of RequestPut = codes "request_put"
snake_of RequestDeleteRange = codes "request_delete_range"
snake_of RequestTxn = codes "request_txn"

-- the name in camel case
unfoldable pub camel_of : Field → List ℕ
camel_of Key = codes "key"
camel_of RangeEnd = codes "rangeEnd"
camel_of Limit = codes "limit"
camel_of Revision = codes "revision"
camel_of SortOrder = codes "sortOrder"
camel_of SortTarget = codes "sortTarget"
camel_of Serializable = codes "serializable"
camel_of KeysOnly = codes "keysOnly"
camel_of CountOnly = codes "countOnly"
camel_of MinModRevision = codes "minModRevision"
camel_of MaxModRevision = codes "maxModRevision"
camel_of MinCreateRevision = codes "minCreateRevision"
camel_of MaxCreateRevision = codes "maxCreateRevision"
camel_of Value = codes "value"
camel_of Lease = codes "lease"
camel_of PrevKv = codes "prevKv"
camel_of IgnoreValue = codes "ignoreValue"
camel_of IgnoreLease = codes "ignoreLease"
camel_of Compare = codes "compare"
camel_of Success = codes "success"
camel_of Failure = codes "failure"
camel_of Physical = codes "physical"
camel_of CreateRequest = codes "createRequest"
camel_of StartRevision = codes "startRevision"
camel_of Filters = codes "filters"
camel_of WatchId = codes "watchId"
camel_of Ttl = codes "TTL"
camel_of Id = codes "ID"
camel_of Keys = codes "keys"
camel_of Result = codes "result"
camel_of Target = codes "target"
camel_of Version = codes "version"
camel_of CreateRevision = codes "createRevision"
camel_of ModRevision = codes "modRevision"
camel_of RequestRange = codes "requestRange"
camel_of RequestPut = codes "requestPut"
camel_of RequestDeleteRange = codes "requestDeleteRange"
camel_of RequestTxn = codes "requestTxn"

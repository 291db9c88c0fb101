-- The spellings of a field's name: the one in camel case is the snake one as protobuf's JSON mapping changes it.
use Rattle.std.proofs.Common.{◌≡◌, refl}
use Rattle.kv_model.specs.Requests as requests
use Rattle.gateway_read.specs.declared.field.Field.{Field}
use Rattle.gateway_read.specs.declared.field.Field.TheVariants.{Key, RangeEnd, Limit, Revision, SortOrder, SortTarget, Serializable}
use Rattle.gateway_read.specs.declared.field.Field.TheVariants.{KeysOnly, CountOnly, MinModRevision, MaxModRevision, MinCreateRevision}
use Rattle.gateway_read.specs.declared.field.Field.TheVariants.{MaxCreateRevision, Value, Lease, PrevKv, IgnoreValue, IgnoreLease}
use Rattle.gateway_read.specs.declared.field.Field.TheVariants.{Compare, Success, Failure, Physical, CreateRequest, StartRevision}
use Rattle.gateway_read.specs.declared.field.Field.TheVariants.{Filters, WatchId, Ttl, Id, Keys, Result, Target, Version, CreateRevision}
use Rattle.gateway_read.specs.declared.field.Field.TheVariants.{ModRevision, RequestRange, RequestPut, RequestDeleteRange, RequestTxn}
use Rattle.gateway_read.specs.Fields.{snake_of, camel_of}

pub camel_of-snake_of : (f : Field) → camel_of f ≡ requests.camel (snake_of f)
unfolding camel_of snake_of
camel_of-snake_of Key = refl
camel_of-snake_of RangeEnd = refl
camel_of-snake_of Limit = refl
camel_of-snake_of Revision = refl
camel_of-snake_of SortOrder = refl
camel_of-snake_of SortTarget = refl
camel_of-snake_of Serializable = refl
camel_of-snake_of KeysOnly = refl
camel_of-snake_of CountOnly = refl
camel_of-snake_of MinModRevision = refl
camel_of-snake_of MaxModRevision = refl
camel_of-snake_of MinCreateRevision = refl
camel_of-snake_of MaxCreateRevision = refl
camel_of-snake_of Value = refl
camel_of-snake_of Lease = refl
camel_of-snake_of PrevKv = refl
camel_of-snake_of IgnoreValue = refl
camel_of-snake_of IgnoreLease = refl
camel_of-snake_of Compare = refl
camel_of-snake_of Success = refl
camel_of-snake_of Failure = refl
camel_of-snake_of Physical = refl
camel_of-snake_of CreateRequest = refl
camel_of-snake_of StartRevision = refl
camel_of-snake_of Filters = refl
camel_of-snake_of WatchId = refl
camel_of-snake_of Ttl = refl
camel_of-snake_of Id = refl
camel_of-snake_of Keys = refl
camel_of-snake_of Result = refl
camel_of-snake_of Target = refl
camel_of-snake_of Version = refl
camel_of-snake_of CreateRevision = refl
camel_of-snake_of ModRevision = refl
camel_of-snake_of RequestRange = refl
camel_of-snake_of RequestPut = refl
camel_of-snake_of RequestDeleteRange = refl
camel_of-snake_of RequestTxn = refl

-- What an object stands for.
use Rattle.serde_json.specs.Data.{Members}
use Rattle.gateway_read.specs.Values.{view, members_of}
use Rattle.gateway_read.specs.declared.object.Object.{Object}

abbrev pub seen : Object → Members
seen o = members_of (view o.value.now)

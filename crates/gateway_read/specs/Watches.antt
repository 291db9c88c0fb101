-- Parts of the reading of a watch.
use Rattle.std.specs.Prelude.{ℕ, List, not, ◌||◌, codes, Ok}
use Rattle.std.specs.List.{list_any}
use Rattle.serde_json.specs.Data.{Items, Members}
use Rattle.kv_model.specs.Calls.{Call}
use Rattle.kv_model.specs.Requests as requests
use Rattle.kv_model.specs.Requests.{Read, ◌>>=◌, bad_field, some_or, given, integer_field, truth_field}
use Rattle.kv_model.specs.Requests.{list_field, each, filter_request, drops_puts}
use Rattle.gateway_read.specs.Transactions.{object_under}
use Rattle.gateway_read.specs.declared.watching.Filter.{Filter}
use Rattle.gateway_read.specs.declared.watching.Filter.TheVariants.{NoPut, NoDelete}
use Rattle.gateway_read.specs.declared.watching.Filters.{Filters}
use Rattle.gateway_read.specs.declared.watching.Options.{Options}

abbrev pub filter_of : Filter → requests.Filter
filter_of NoPut = requests.Filter.no_put
filter_of NoDelete = requests.Filter.no_delete

-- the object under the name of the request
abbrev pub create_read : Members → Read Members
create_read ms = some_or (bad_field (codes "create_request")) (given (codes "create_request") ms) >>= object_under
    (codes "create_request")

-- filters together
abbrev pub together : List requests.Filter → Filters
together fs = record { no_put = list_any drops_puts fs; no_delete = list_any (λ f. not (drops_puts f)) fs }

abbrev pub with_filter : Filters → requests.Filter → Filters
with_filter fs f = record { no_put = fs.no_put || drops_puts f; no_delete = fs.no_delete || not (drops_puts f) }

-- the filters that the values of a list name together
abbrev pub filters_read : Items → Read Filters
filters_read items = each filter_request items >>= λ fs. Ok (together fs)

-- what is read behind the range, in its order
unfoldable pub options_read : Members → Read Options
options_read ms = do
  start ← integer_field (codes "start_revision") ms
  items ← list_field (codes "filters") ms
  filters ← filters_read items
  prev_kv ← truth_field (codes "prev_kv") ms
  id ← integer_field (codes "watch_id") ms
  Ok (record { start = start; filters = filters; prev_kv = prev_kv; id = id })

-- the watch of a range with these
abbrev pub watch_with : List ℕ → List ℕ → Options → Call
watch_with key end o = Call.watch (record {
  range = record { key = key; end = end };
  no_put = o.filters.no_put;
  no_delete = o.filters.no_delete;
  prev_kv = o.prev_kv;
}) o.start o.id

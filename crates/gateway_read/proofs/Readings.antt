-- The model's readings, part by part.
use Rattle.std.proofs.Common.{◌≡◌, ℕ, ℤ, List, [], ◌∷◌, map, Bool, true, false, cond, Option, None, Some, is_some, Ok, Err, refl, sym, ap, ◌∙◌}
use Rattle.std.specs.Prelude.{codes, option_map}
use Rattle.serde_json.specs.Data.{Members}
use Rattle.kv_model.specs.declared.call.PutRequest.{PutRequest}
use Rattle.kv_model.specs.declared.call.RangeQuery.{RangeQuery}
use Rattle.kv_model.specs.declared.call.SortOrder.{SortOrder}
use Rattle.kv_model.specs.declared.call.SortOrder.TheVariants.{Unsorted}
use Rattle.kv_model.specs.declared.call.SortTarget.{SortTarget}
use Rattle.kv_model.specs.declared.call.SortTarget.TheVariants.{ByKey}
use Rattle.kv_model.specs.Requests as requests
use Rattle.kv_model.specs.Keys.{same_key}
use Rattle.kv_model.specs.Ranges.{plain_range}
use Rattle.kv_model.specs.Requests.{Read, ◌>>=◌, bytes_field, truth_field, integer_field}
use Rattle.gateway_read.specs.declared.requests.Request.{Request}
use Rattle.gateway_read.specs.declared.requests.Request.TheVariants.{Range, Put, Delete, Txn, Compact, Watch, Grant, Revoke}
use Rattle.gateway_read.specs.declared.requests.Request.TheVariants.{KeepAlive, TimeToLive, Leases}
use Rattle.gateway_read.specs.declared.requests.Flags.{Flags}
use Rattle.gateway_read.specs.declared.requests.Bounds.{Bounds}
use Rattle.gateway_read.specs.Options.{flags_of, bounds_of, with_options}
use Rattle.gateway_read.specs.Parts.{completed, call_read, key_and_value}

-- a query of the first six fields, before the others are read
abbrev pub begun : List ℕ → List ℕ → ℤ → ℤ → SortOrder → SortTarget → RangeQuery
begun k e l r o t =
    record (plain_range k 0) { range = record { key = k; end = e }; limit = l; revision = r; order = o; target = t }

abbrev flags : Bool → Bool → Bool → Flags
flags a b c = record { serializable = a; keys_only = b; count_only = c }

abbrev bounds : ℤ → ℤ → ℤ → ℤ → Bounds
bounds a b c d = record { min_mod = a; max_mod = b; min_create = c; max_create = d }

pub range_query-completed : (ms : Members) {key end : List ℕ} {limit revision : ℤ} {order : SortOrder} {target : SortTarget}
    → requests.bytes_field (codes "key") ms ≡ Ok key
    → requests.bytes_field (codes "range_end") ms ≡ Ok end
    → requests.integer_field (codes "limit") ms ≡ Ok limit
    → requests.integer_field (codes "revision") ms ≡ Ok revision
    → requests.field Unsorted (requests.enum_of requests.sort_orders) (codes "sort_order") ms ≡ Ok order
    → requests.field ByKey (requests.enum_of requests.sort_targets) (codes "sort_target") ms ≡ Ok target
    → requests.range_query ms ≡ completed (begun key end limit revision order target) ms
unfolding requests.range_query completed flags_of bounds_of
range_query-completed ms {key} {end} {limit} {revision} {order} {target} k e l r o t = rw (k, e, l, r, o, t)
    (apart (truth_field (codes "serializable") ms) (truth_field (codes "keys_only") ms) (truth_field (codes "count_only") ms)
    (integer_field (codes "min_mod_revision") ms) (integer_field (codes "max_mod_revision") ms)
    (integer_field (codes "min_create_revision") ms) (integer_field (codes "max_create_revision") ms))
  where
    apart : (ra rb rc : Read Bool) (rd re rf rg : Read ℤ)
        → (ra >>= λ a. rb >>= λ b. rc >>= λ c. rd >>= λ d. re >>= λ e. rf >>= λ f. rg >>= λ g.
        Ok (with_options (begun key end limit revision order target) (flags a b c) (bounds d e f g)))
        ≡ ((ra >>= λ a. rb >>= λ b. rc >>= λ c. Ok (flags a b c)) >>= λ fs.
        (rd >>= λ d. re >>= λ e. rf >>= λ f. rg >>= λ g. Ok (bounds d e f g)) >>= λ bs.
        Ok (with_options (begun key end limit revision order target) fs bs))
    apart (Err x) b c d e f g = refl
    apart (Ok a) (Err x) c d e f g = refl
    apart (Ok a) (Ok b) (Err x) d e f g = refl
    apart (Ok a) (Ok b) (Ok c) (Err x) e f g = refl
    apart (Ok a) (Ok b) (Ok c) (Ok d) (Err x) f g = refl
    apart (Ok a) (Ok b) (Ok c) (Ok d) (Ok e) (Err x) g = refl
    apart (Ok a) (Ok b) (Ok c) (Ok d) (Ok e) (Ok f) (Err x) = refl
    apart (Ok a) (Ok b) (Ok c) (Ok d) (Ok e) (Ok f) (Ok g) = refl

-- what is read of a Put behind its key and its value
abbrev pub put_rest : List ℕ × List ℕ → Members → Read PutRequest
put_rest p ms = integer_field (codes "lease") ms >>= λ l. truth_field (codes "prev_kv") ms >>= λ b. truth_field (codes "ignore_value") ms >>= λ v.
    truth_field (codes "ignore_lease") ms >>= λ i.
    Ok (record { key = p.0; value = p.1; lease = l; prev_kv = b; ignore_value = v; ignore_lease = i })

pub put_request-parts : (ms : Members) → requests.put_request ms ≡ (key_and_value ms >>= λ p. put_rest p ms)
unfolding requests.put_request key_and_value
put_request-parts ms = over (bytes_field (codes "key") ms) (bytes_field (codes "value") ms)
  where
    over : (rk rv : Read (List ℕ)) → (rk >>= λ k. rv >>= λ v. put_rest (k, v) ms) ≡ ((rk >>= λ k. rv >>= λ v. Ok (k, v)) >>= λ p. put_rest p ms)
    over (Err x) rv = refl
    over (Ok k) (Err x) = refl
    over (Ok k) (Ok v) = refl

option_map-cond : {A B : Type 0} (f : A → B) (b : Bool) (x : A) (r : Option A)
    → cond b (Some (f x)) (option_map f r) ≡ option_map f (cond b (Some x) r)
option_map-cond f true x r = refl
option_map-cond f false x r = refl

pub named_value-map : {A B : Type 0} (f : A → B) (table : List (List ℕ × A)) (name : List ℕ)
    → requests.named_value (map (λ e. (e.0, f e.1)) table) name ≡ option_map f (requests.named_value table name)
named_value-map f [] name = refl
named_value-map f (e ∷ table) name = ap (cond (same_key e.0 name) (Some (f e.1))) (named_value-map f table name)
    ∙ option_map-cond f (same_key e.0 name) e.1 _

-- what each path asks for
abbrev pub known_paths : List (List ℕ × Request)
known_paths = (codes "/v3/kv/range", Range) ∷ (codes "/v3/kv/put", Put) ∷ (codes "/v3/kv/deleterange", Delete) ∷ (codes "/v3/kv/txn", Txn)
    ∷ (codes "/v3/kv/compaction", Compact) ∷ (codes "/v3/watch", Watch) ∷ (codes "/v3/lease/grant", Grant)
    ∷ (codes "/v3/lease/revoke", Revoke) ∷ (codes "/v3/kv/lease/revoke", Revoke) ∷ (codes "/v3/lease/keepalive", KeepAlive)
    ∷ (codes "/v3/lease/timetolive", TimeToLive) ∷ (codes "/v3/kv/lease/timetolive", TimeToLive)
    ∷ (codes "/v3/lease/leases", Leases) ∷ (codes "/v3/kv/lease/leases", Leases) ∷ []

by_path : (path body : List ℕ) → requests.request_of path body
    ≡ (requests.some_or requests.no_path (option_map call_read (requests.named_value known_paths path))
    >>= λ reader. requests.object_of body >>= reader)
unfolding requests.request_of
by_path path body = ap (λ r. requests.some_or requests.no_path r >>= λ reader. requests.object_of body >>= reader)
    (named_value-map call_read known_paths path)

pub request_of-no_path : (path body : List ℕ) → requests.named_value known_paths path ≡ None
    → requests.request_of path body ≡ Err requests.no_path
request_of-no_path path body h = rw (by_path path body, h) refl

pub request_of-call_read : (path body : List ℕ) (request : Request) → requests.named_value known_paths path ≡ Some request
    → requests.request_of path body ≡ (requests.object_of body >>= call_read request)
request_of-call_read path body request h = rw (by_path path body, h) refl

-- ---- paths that are known, and others

by_known : (path : List ℕ) → requests.named_value requests.paths path ≡ option_map call_read (requests.named_value known_paths path)
by_known path = named_value-map call_read known_paths path

pub not-unknown : (path : List ℕ) (request : Request) → requests.named_value known_paths path ≡ Some request
    → requests.named_value requests.paths path ≡ None → ⊥
not-unknown path request h e =
    let x : true ≡ false = sym (ap is_some (by_known path ∙ ap (option_map call_read) h)) ∙ ap is_some e in cc

pub not-known : (path : List ℕ) → requests.named_value known_paths path ≡ None → is_some (requests.named_value requests.paths path) ≡ true → ⊥
not-known path h e = let x : false ≡ true = sym (ap is_some (by_known path ∙ ap (option_map call_read) h)) ∙ e in cc

pub ok-not-err : {A E : Type 0} {x : A} {e : E} → (Ok x) ≡ (Err e) → ⊥
ok-not-err h = cc

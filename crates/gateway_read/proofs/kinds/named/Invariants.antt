use Rattle.std.proofs.Common.{◌≡◌, map, drop}
use Rattle.kv_model.specs.Requests.{named_value}
use Rattle.gateway_read.proofs.kinds.named.Given as goal

abbrev pub invariant-loop-known : goal.invariant-loop-known
invariant-loop-known g l = named_value (map (λ e. (e.0.now, e.1)) (drop l.known-index l.table)) l.name
    ≡ named_value (map (λ e. (e.0.now, e.1)) l.table) l.name

use Rattle.std.proofs.Common.{◌≡◌, ◌++◌, filter_map, length}
use Rattle.kv_model.specs.Certificates.{claim_of}
use Rattle.witness_core.specs.Making.{dump_of}
use Rattle.witness_core.proofs.making.make.Given as goal

abbrev pub invariant-loop-version : goal.invariant-loop-version
invariant-loop-version l =
    l.claims.items ++ filter_map (claim_of (dump_of l.fn.view)) l.versions
    ≡ filter_map (claim_of (dump_of l.fn.view)) l.fn.view.versions

abbrev pub decreases-loop-version : goal.decreases-loop-version
decreases-loop-version l = length l.versions

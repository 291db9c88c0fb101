use Rattle.std.proofs.Common.{◌≡◌, ℕ, List, ◌++◌, reverse}
use Rattle.std.specs.Borrow.{Bor}
use Rattle.std.specs.HashMap.{get}
use Rattle.std.specs.Iterator.Adapters.{rev_source}
use Rattle.std.specs.Slice.Iter.{iter_rest}
use Rattle.kv_model.specs.declared.version.Version.{Version}
use Rattle.kv_model.specs.Keys.{same_key}
use Rattle.witness_core.specs.Walks.{next_main, next_mains}
use Rattle.witness_core.proofs.nexts.next_mains.Given as goal

abbrev pub invariant-loop-version : goal.invariant-loop-version
invariant-loop-version l =
    (done : List Version)
    × (l.fn.versions ≡ iter_rest (rev_source l.version-iterator) ++ done)
    × (l.nexts.items ≡ reverse (next_mains done))
    × ((k : Bor (List ℕ)) → get (λ (x y : Bor (List ℕ)). same_key x.now y.now) l.met k ≡ next_main k.now done)

use Rattle.std.proofs.Common.{◌≡◌, drop}
use Rattle.std.specs.List.{list_all}
use Rattle.kv_model.specs.Txns.{holds}
use Rattle.txn_core.proofs.compare.all_hold.Given as goal

-- those that are left hold if all do, and the keys are the view's
abbrev pub invariant-loop-compare : goal.invariant-loop-compare
invariant-loop-compare l = record {
  rest : list_all (holds l.view.versions l.view.revision) (drop l.compare-index l.compares)
      ≡ list_all (holds l.view.versions l.view.revision) l.compares;
  keys : l.keys ≡ l.view;
}

-- What is planned for a transaction that passes its check is what the model does.
use Rattle.std.proofs.Common.{◌≡◌, ◌+◌, [], sym, ◌∙◌, ap}
use Rattle.kv_model.specs.Txns.{path_of}
use Rattle.kv_model.specs.World.{revision, versions}
use Rattle.store_laws.specs.PlanLaws.{PlanIsEffect, PlanRefusesFirst, StorePlansTxn}
use Rattle.store_laws.specs.Stores.{path_in, changes_of_path, refusal_of_path}
use Rattle.store_laws.proofs.PlanLaws.{effect-planned, refusal-planned}
use Rattle.store_laws.proofs.PathLaws.{path-checked}
use Rattle.store_laws.proofs.StandsTxns.{path_stands, effect_stands, run_refusal_stands}

pub plan_effect : PlanIsEffect
plan_effect vs now ops h = effect-planned vs (now + 1) [] (path_of vs now ops) tt (path-checked vs now ops h).0

pub plan_refuses : PlanRefusesFirst
plan_refuses granted c now vs ops h =
    sym (refusal-planned granted c now vs [] (path_of vs now ops) tt (path-checked vs now ops h).0)

pub store_plans : StorePlansTxn
store_plans s w h ops f =
    let p : path_in s ops ≡ path_of (versions w) (revision w) ops = path_stands s w h ops in
    record {
      path = p;
      changes = ap (changes_of_path s) p
          ∙ sym (effect_stands s w h (path_of (versions w) (revision w) ops) (path-checked (versions w) (revision w) ops f).0);
      refusal = ap (refusal_of_path s) p
          ∙ sym (run_refusal_stands s w h (path_of (versions w) (revision w) ops)
          (path-checked (versions w) (revision w) ops f).0);
    }

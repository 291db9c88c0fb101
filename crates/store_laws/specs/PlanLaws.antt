-- What a transaction does is planned from the state before it; where it passes its check, that is what the model does.
use Rattle.std.specs.Prelude.{◌≡◌, ℕ, ◌+◌, ℤ, List, [], Bool, None}
use Rattle.kv_model.specs.declared.version.Version.{Version}
use Rattle.kv_model.specs.Calls.{Ops}
use Rattle.kv_model.specs.Leases.{is_granted}
use Rattle.kv_model.specs.Txns.{static_fault, path_of, effect, run_refusal}
use Rattle.kv_model.specs.World.{World, revision, versions}
use Rattle.store_laws.specs.Plans.{planned, planned_refusal}
use Rattle.store_laws.specs.Stands.{Store, StandsFor}
use Rattle.store_laws.specs.Stores.{path_in, changes_of_path, refusal_of_path}

-- the planned changes of the operations that run are those that they make one after the other, each on what the ones
-- before it left
abbrev pub PlanIsEffect : Type 0
PlanIsEffect = (vs : List Version) (now : ℕ) (ops : Ops) → static_fault ops ≡ None
    → planned vs (now + 1) [] (path_of vs now ops) ≡ effect vs (now + 1) 0 (path_of vs now ops)

-- and the refusal that is planned is the first one that comes as they are made
abbrev pub PlanRefusesFirst : Type 0
PlanRefusesFirst = (granted : ℤ → Bool) (c now : ℕ) (vs : List Version) (ops : Ops) → static_fault ops ≡ None
    → planned_refusal granted c now vs (path_of vs now ops) ≡ run_refusal granted c now vs 0 (path_of vs now ops)

-- a store plans what the world does that it stands for
pub record PlansAs (s : Store) (w : World) (ops : Ops) : Type 0 where
  pub path : path_in s ops ≡ path_of (versions w) (revision w) ops
  pub changes : changes_of_path s (path_in s ops)
      ≡ effect (versions w) (revision w + 1) 0 (path_of (versions w) (revision w) ops)
  pub refusal : refusal_of_path s (path_in s ops)
      ≡ run_refusal (is_granted w.leases) w.compacted (revision w) (versions w) 0 (path_of (versions w) (revision w) ops)

abbrev pub StorePlansTxn : Type 0
StorePlansTxn = (s : Store) (w : World) → StandsFor s w → (ops : Ops) → static_fault ops ≡ None → PlansAs s w ops

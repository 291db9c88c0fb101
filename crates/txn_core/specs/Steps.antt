-- The operations that run, as the definitions speak of them.
use Rattle.std.specs.Prelude.{List, [], ◌∷◌, map}
use Rattle.kv_model.specs.Txns.{Path}
use Rattle.txn_core.specs.declared.step.Step.{Step, fold-Step}
use Rattle.txn_core.specs.declared.step.Step.TheOpen.{Step-F}

-- steps in a row, each as what it puts before those behind it
abbrev pub in_row : List (Path → Path) → Path → Path
in_row [] rest = rest
in_row (f ∷ fs) rest = f (in_row fs rest)

-- one level of a step, those within seen already
abbrev pub one_step : Step-F (Path → Path) → Path → Path
one_step (Step-F.Range q) rest = Path.range q.now rest
one_step (Step-F.Put p) rest = Path.put p.now rest
one_step (Step-F.Delete d) rest = Path.delete d.now rest
one_step (Step-F.Inner succeeded steps) rest = Path.txn succeeded (in_row steps.items Path.end) rest

abbrev pub step_view : Step → Path → Path
step_view = fold-Step (Path → Path) one_step

-- the operations that run, as a path
abbrev pub steps_view : List Step → Path
steps_view ss = in_row (map step_view ss) Path.end

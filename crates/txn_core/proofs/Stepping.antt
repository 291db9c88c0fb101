-- What one step puts before a path.
use Rattle.std.proofs.Common.{◌≡◌, Bool, Bor, Vec, Global, rules}
use Rattle.kv_model.specs.declared.call.RangeQuery.{RangeQuery}
use Rattle.kv_model.specs.declared.call.PutRequest.{PutRequest}
use Rattle.kv_model.specs.declared.call.DeleteRequest.{DeleteRequest}
use Rattle.kv_model.specs.Txns.{Path}
use Rattle.txn_core.specs.declared.step.Step.{Step, the_lemmas}
use Rattle.txn_core.specs.declared.step.Step.TheVariants as step
use Rattle.txn_core.specs.Steps.{step_view, steps_view}

pub step_view-Range : (q : Bor RangeQuery) (r : Path) → step_view (step.Range q) r ≡ Path.range q.now r
step_view-Range q r = search (rules, the_lemmas)

pub step_view-Put : (p : Bor PutRequest) (r : Path) → step_view (step.Put p) r ≡ Path.put p.now r
step_view-Put p r = search (rules, the_lemmas)

pub step_view-Delete : (d : Bor DeleteRequest) (r : Path) → step_view (step.Delete d) r ≡ Path.delete d.now r
step_view-Delete d r = search (rules, the_lemmas)

pub step_view-Inner : (b : Bool) (ss : Vec Step Global) (r : Path) → step_view (step.Inner b ss) r ≡ Path.txn b (steps_view ss.items) r
step_view-Inner b ss r = search (rules, the_lemmas)

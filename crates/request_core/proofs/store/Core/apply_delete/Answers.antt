use Rattle.std.proofs.Common.{refl, rules}
use Rattle.request_core.proofs.Deletes.{delete_done, delete_refuses}
use Rattle.request_core.proofs.store.Core.apply_delete.Goals as goal

pub returns-in-Ok-clause-done : goal.returns-in-Ok-clause-done
returns-in-Ok-clause-done g c = delete_done c.args.self.now c.delete.new.self c.args.request.now c.in-Ok.deleted _ refl (record {
  clear = c.in-Ok.ensures.made.0;
  made = c.in-Ok.ensures.made.1;
  counted = c.in-Ok.ensures.counted;
  few = search rules;
})

pub returns-in-Err-clause-refused : goal.returns-in-Err-clause-refused
returns-in-Err-clause-refused g c =
    delete_refuses c.args.self.now c.delete.new.self c.args.request.now c.in-Err.refusal c.in-Err.ensures.refused c.in-Err.ensures.err.0

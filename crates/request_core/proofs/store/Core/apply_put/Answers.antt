use Rattle.std.proofs.Common.{refl}
use Rattle.request_core.proofs.Puts.{put_done, put_refuses}
use Rattle.request_core.proofs.store.Core.apply_put.Goals as goal

pub returns-clause-done : goal.returns-clause-done
returns-clause-done g c = put_done c.args.self.now c.put.new.self c.args.request.now _ refl (record {
  clear = c.in_default.ensures.made.0;
  made = c.in_default.ensures.made.1;
})

pub returns-in-Err-clause-refused : goal.returns-in-Err-clause-refused
returns-in-Err-clause-refused g c =
    put_refuses c.args.self.now c.put.new.self c.args.request.now c.in-Err.refusal c.in-Err.ensures.refused c.in-Err.ensures.err.0

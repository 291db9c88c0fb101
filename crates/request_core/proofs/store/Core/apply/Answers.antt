use Rattle.kv_model.specs.Commands.{call_of}
use Rattle.request_core.proofs.Worlds.{refuses_alone}
use Rattle.request_core.proofs.store.Core.apply.Goals as goal

pub returns-clause-refused : goal.returns-clause-refused
returns-clause-refused c =
    refuses_alone c.args.self.now c.apply_to.new.self (call_of c.args.command.now) c.apply_to.result c.apply_to.ensures.refused

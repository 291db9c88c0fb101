use Rattle.std.proofs.Common.{◌≡◌, ℕ, subst, ap, ◌∙◌}
use Rattle.kv_model.specs.Commands.{call_of}
use Rattle.request_core.specs.State.{CoreState}
use Rattle.request_core.specs.Answers.{has_changed}
use Rattle.request_core.specs.Commands.{IsIssued}
use Rattle.request_core.proofs.Telling.{command_kept, command_told}
use Rattle.request_core.proofs.Worlds.{does}
use Rattle.request_core.proofs.store.Core.apply_to.Goals as goal

pub returns-in-Ok-clause-done : goal.returns-in-Ok-clause-done
returns-in-Ok-clause-done g c =
    let found : c.revision-before.result ≡ c.args.self.now.store.revision
    = c.revision-before.ensures.value ∙ ap (λ (s : CoreState). s.store.revision) c.self.view_is in
    does c.args.self.now c.receipt_of.new.self _ c.receipt_of.result (record {
      between = c.carry_out.new.self;
      left = c.in-Ok.todo;
      carried = c.in-Ok.ensures.done;
      issued = subst (λ (n : ℕ). IsIssued n c.in-Ok.todo c.carry_out.new.self c.receipt_of.new.self c.receipt_of.result) found
          c.receipt_of.ensures;
    })

pub returns-in-Ok-clause-told : goal.returns-in-Ok-clause-told
returns-in-Ok-clause-told g c =
    command_told g.S.Sink.takes c.args.self.now c.receipt_of.new.self (call_of c.args.command.now) c.args.sink.now c.carry_out.new.sink
    (record {
      between = c.carry_out.new.self;
      left = c.in-Ok.todo;
      carried = c.in-Ok.ensures.done;
      grows = c.in-Ok.ensures.grows;
      floors = c.in-Ok.ensures.floors;
      told = c.in-Ok.ensures.told;
      changed = has_changed c.receipt_of.result;
      counts = c.receipt_of.ensures.counts;
    })

pub returns-in-Ok-clause-stored : goal.returns-in-Ok-clause-stored
returns-in-Ok-clause-stored g c =
    command_kept g.S.Sink.takes c.args.self.now c.receipt_of.new.self (call_of c.args.command.now) c.args.sink.now c.carry_out.new.sink
    (record {
      between = c.carry_out.new.self;
      left = c.in-Ok.todo;
      carried = c.in-Ok.ensures.done;
      grows = c.in-Ok.ensures.grows;
      floors = c.in-Ok.ensures.floors;
      told = c.in-Ok.ensures.told;
      changed = has_changed c.receipt_of.result;
      counts = c.receipt_of.ensures.counts;
    })

use Rattle.std.proofs.Common.{◌≡◌, ℕ, sym, subst, ap, ◌∙◌}
use Rattle.std.specs.Int.{w64}
use Rattle.std.proofs.lemmas.Int.{to_z-of_z}
use Rattle.std.proofs.lemmas.List.{append-nil}
use Rattle.kv_model.specs.Calls.{Call}
use Rattle.request_core.specs.Answers.{has_changed}
use Rattle.request_core.specs.State.{CoreState}
use Rattle.request_core.specs.Commands.{IsIssued}
use Rattle.request_core.proofs.Telling.{command_kept, command_told}
use Rattle.request_core.proofs.Worlds.{does}
use Rattle.request_core.proofs.store.Core.compact_to.Goals as goal

pub returns-in-Ok-clause-done : goal.returns-in-Ok-clause-done
returns-in-Ok-clause-done g c =
    let found : c.revision-before.result ≡ c.args.self.now.store.revision
    = c.revision-before.ensures.value ∙ ap (λ (s : CoreState). s.store.revision) c.self.view_is in
    does c.args.self.now c.receipt_of.new.self _ c.receipt_of.result (record {
      between = c.apply_compact.new.self;
      left = c.in-Ok.todo;
      carried = rw (to_z-of_z w64 c.args.revision c.ranges.revision) at c.in-Ok.ensures.done;
      issued = subst (λ (n : ℕ). IsIssued n c.in-Ok.todo c.apply_compact.new.self c.receipt_of.new.self c.receipt_of.result) found
          c.receipt_of.ensures;
    })

pub returns-in-Ok-clause-told : goal.returns-in-Ok-clause-told
returns-in-Ok-clause-told g c =
    command_told g.S.Sink.takes c.args.self.now c.receipt_of.new.self (Call.compact c.args.revision c.args.physical) c.args.sink.now
    c.apply_compact.new.sink (record {
      between = c.apply_compact.new.self;
      left = c.in-Ok.todo;
      carried = rw (to_z-of_z w64 c.args.revision c.ranges.revision) at c.in-Ok.ensures.done;
      grows = c.in-Ok.ensures.versions ∙ sym (append-nil c.args.self.now.store.versions);
      floors = rw (to_z-of_z w64 c.args.revision c.ranges.revision) at c.in-Ok.ensures.compacted;
      told = rw (to_z-of_z w64 c.args.revision c.ranges.revision) at c.in-Ok.ensures.told;
      changed = has_changed c.receipt_of.result;
      counts = c.receipt_of.ensures.counts;
    })

pub returns-in-Ok-clause-stored : goal.returns-in-Ok-clause-stored
returns-in-Ok-clause-stored g c =
    command_kept g.S.Sink.takes c.args.self.now c.receipt_of.new.self (Call.compact c.args.revision c.args.physical) c.args.sink.now
    c.apply_compact.new.sink (record {
      between = c.apply_compact.new.self;
      left = c.in-Ok.todo;
      carried = rw (to_z-of_z w64 c.args.revision c.ranges.revision) at c.in-Ok.ensures.done;
      grows = c.in-Ok.ensures.versions ∙ sym (append-nil c.args.self.now.store.versions);
      floors = rw (to_z-of_z w64 c.args.revision c.ranges.revision) at c.in-Ok.ensures.compacted;
      told = rw (to_z-of_z w64 c.args.revision c.ranges.revision) at c.in-Ok.ensures.told;
      changed = has_changed c.receipt_of.result;
      counts = c.receipt_of.ensures.counts;
    })

use Rattle.std.proofs.Common.{sym, subst, rules}
use Rattle.std.proofs.lemmas.Int.{to_z-of_z}
use Rattle.std.specs.Int.{w64}
use Rattle.kv_model.specs.declared.refusal.Refusal.{Refusal}
use Rattle.request_core.specs.Commands.{RefusesExpiry}
use Rattle.request_core.proofs.Revokes.{lease_expires, expiry_refuses, revoke_refusal}
use Rattle.request_core.proofs.Telling.{expiry_kept, expiry_told}
use Rattle.request_core.proofs.store.Core.expire_lease.Goals as goal

pub returns-in-Ok-clause-done : goal.returns-in-Ok-clause-done
returns-in-Ok-clause-done g c =
    let made = rw (to_z-of_z w64 c.args.id c.ranges.id) at c.in-Ok.ensures.made in
    let counted = rw (to_z-of_z w64 c.args.id c.ranges.id) at c.in-Ok.ensures.counted in
    let told = rw (to_z-of_z w64 c.args.id c.ranges.id) at c.expired.ensures.told in
    lease_expires c.args.self.now c.expired.new.self c.args.id c.expired.result (record {
      keys = c.in-Ok.deleted;
      revoked = c.revoke.new.self;
      was = record { clear = made.0; made = made.1; counted = counted; few = search rules };
      due_is = c.requires;
      told = told;
      counts = c.expired.ensures.counts;
    })

pub returns-in-Ok-clause-told : goal.returns-in-Ok-clause-told
returns-in-Ok-clause-told g c =
    let made = rw (to_z-of_z w64 c.args.id c.ranges.id) at c.in-Ok.ensures.made in
    let counted = rw (to_z-of_z w64 c.args.id c.ranges.id) at c.in-Ok.ensures.counted in
    let told = rw (to_z-of_z w64 c.args.id c.ranges.id) at c.expired.ensures.told in
    let takes = rw (to_z-of_z w64 c.args.id c.ranges.id) at c.in-Ok.ensures.told in
    expiry_told g.S.Sink.takes c.args.self.now c.expired.new.self c.args.id c.expired.result c.args.sink.now c.revoke.new.sink (record {
      keys = c.in-Ok.deleted;
      revoked = c.revoke.new.self;
      was = record { clear = made.0; made = made.1; counted = counted; few = search rules };
      due_is = c.requires;
      told = told;
      counts = c.expired.ensures.counts;
    }) takes

pub returns-in-Ok-clause-stored : goal.returns-in-Ok-clause-stored
returns-in-Ok-clause-stored g c =
    let made = rw (to_z-of_z w64 c.args.id c.ranges.id) at c.in-Ok.ensures.made in
    let counted = rw (to_z-of_z w64 c.args.id c.ranges.id) at c.in-Ok.ensures.counted in
    let told = rw (to_z-of_z w64 c.args.id c.ranges.id) at c.expired.ensures.told in
    expiry_kept c.args.self.now c.expired.new.self c.args.id c.expired.result (record {
      keys = c.in-Ok.deleted;
      revoked = c.revoke.new.self;
      was = record { clear = made.0; made = made.1; counted = counted; few = search rules };
      due_is = c.requires;
      told = told;
      counts = c.expired.ensures.counts;
    })

pub returns-in-Err-clause-refused : goal.returns-in-Err-clause-refused
returns-in-Err-clause-refused g c =
    subst (λ (e : Refusal). RefusesExpiry c.args.self.now c.revoke.new.self e) (sym c.refusal_of_expiry.ensures)
    (expiry_refuses c.args.self.now c.revoke.new.self c.args.id c.in-Err.refusal c.requires
    (revoke_refusal c.args.self.now.store c.args.id c.in-Err.refusal
    (rw (to_z-of_z w64 c.args.id c.ranges.id) at c.in-Err.ensures.refused)) c.in-Err.ensures.err.0)

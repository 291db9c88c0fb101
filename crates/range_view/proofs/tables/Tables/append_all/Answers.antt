-- The table grows by the versions of the next revision, and the index with it.
use Rattle.std.proofs.Common.{◌≡◌, sym}
use Rattle.store_laws.specs.Snapshots.{last_main_or}
use Rattle.range_view.proofs.Growing.{grows, grown-stored, next-main}
use Rattle.range_view.proofs.tables.Tables.append_all.Goals as goal

pub add_all-requires : goal.add_all-requires
add_all-requires c =
    let next = rw (← c.self.view_is) at c.requires.next in
    let parts = grows _ c.args.versions.now c.args.main c.self.invariant.stored next c.requires.first in
    record { rising = parts.rising; older = parts.older; newest = parts.newest; tied = record { rising = c.self.invariant.stored.rising; agrees = c.self.invariant.agrees } }

pub invariant_of-self : goal.invariant_of-self
invariant_of-self c =
    let next = rw (← c.self.view_is) at c.requires.next in
    record {
      stored = rw c.in-Ok.ensures.ok (grown-stored _ c.args.versions.now c.args.main c.self.invariant.stored next c.requires.first);
      agrees = c.in-Ok.ensures.tied.agrees;
    }

pub invariant_of-self-in-Err : goal.invariant_of-self-in-Err
invariant_of-self-in-Err c = record { stored = rw c.in-Err.ensures.err c.self.invariant.stored; agrees = c.in-Err.ensures.tied.agrees }

pub returns-in-Ok-clause-ok : goal.returns-in-Ok-clause-ok
returns-in-Ok-clause-ok c =
    let next = rw (← c.self.view_is) at c.requires.next in
    let last : c.args.main ≡ last_main_or c.self.inside.revision c.args.versions.now = sym (next-main c.self.inside.revision c.args.versions.now c.args.main c.requires.first next).1 in
    rw (← c.self.view_is) (λ i. record { versions = c.in-Ok.ensures.ok i; compacted = c.self.inside.compacted; revision = last i; place = c.self.inside.trimmer })

pub returns-in-Err-clause-err : goal.returns-in-Err-clause-err
returns-in-Err-clause-err c = rw (← c.self.view_is) (λ i. record { versions = c.in-Err.ensures.err i; compacted = c.self.inside.compacted; revision = c.self.inside.revision; place = c.self.inside.trimmer })

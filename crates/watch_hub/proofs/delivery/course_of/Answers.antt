-- By the versions from the first match on.
use Rattle.std.proofs.Common.{◌&&◌, ◌∙◌, List, filter, sym, ap, subst}
use Rattle.std.specs.Prelude.{nat_le}
use Rattle.kv_model.specs.declared.version.Version.{Version}
use Rattle.kv_model.specs.Watches.{matches}
use Rattle.kv_model.specs.Watches.{last_revision}
use Rattle.version_table.specs.Rising.{IsRising}
use Rattle.watch_hub.specs.Delivering.{Course}
use Rattle.watch_hub.specs.Views.{pending_view}
use Rattle.watch_hub.proofs.Courses.{behind-passes}
use Rattle.watch_hub.proofs.Tallies.{filter-rises, filter-within, last-within}
use Rattle.watch_hub.proofs.delivery.course_of.Goals as goal

pub last_revision-requires : goal.last_revision-requires
last_revision-requires c = subst IsRising (sym c.new-walk.ensures.value)
    (filter-rises (λ v. nat_le c.in-Some-2.first v.rev.main && matches c.args.pending.watched.now v) c.args.tables.now.versions c.new-walk.ensures.stored.rising)

pub returns-in-Some-2-clause-course : goal.returns-in-Some-2-clause-course
returns-in-Some-2-clause-course c =
    let from : List Version → List Version = filter (λ v. nat_le c.in-Some-2.first v.rev.main && matches c.args.pending.watched.now v) in
    ap Course.passes (c.last_revision.ensures ∙ ap last_revision c.new-walk.ensures.value)
    ∙ sym (behind-passes c.args.tables.now.versions c.args.tables.now.compacted (pending_view c.args.pending) c.in-Some-2.first c.if-pending.false c.in-Some-2.is c.in-Some.first c.in-Some.is (rw (← c.compacted.ensures) c.if-first-compacted.false))

pub returns-in-Some-2-clause-within : goal.returns-in-Some-2-clause-within
returns-in-Some-2-clause-within c =
    let from : List Version → List Version = filter (λ v. nat_le c.in-Some-2.first v.rev.main && matches c.args.pending.watched.now v) in
    rw (c.last_revision.ensures, c.new-walk.ensures.value)
    (last-within c.args.tables.now.revision (from c.args.tables.now.versions)
    (filter-within c.args.tables.now.revision (λ v. nat_le c.in-Some-2.first v.rev.main && matches c.args.pending.watched.now v) c.args.tables.now.versions c.new-walk.ensures.stored.upto))

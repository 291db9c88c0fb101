-- By the versions from the first match on.
use Rattle.std.proofs.Common.{◌&&◌, ◌∙◌, List, filter, sym, ap, subst}
use Rattle.std.specs.Prelude.{nat_le}
use Rattle.kv_model.specs.declared.version.Version.{Version}
use Rattle.kv_model.specs.Watches.{matches}
use Rattle.kv_model.specs.Watches.{Delivery}
use Rattle.version_table.specs.Rising.{IsRising}
use Rattle.watch_hub.specs.Delivering.{message_from}
use Rattle.watch_hub.specs.Views.{pending_view}
use Rattle.watch_hub.proofs.Courses.{behind-told}
use Rattle.watch_hub.proofs.Tallies.{filter-rises}
use Rattle.watch_hub.proofs.delivery.delivery_due.Goals as goal

pub message-requires : goal.message-requires
message-requires c = subst IsRising (sym c.new-walk.ensures.value)
    (filter-rises (λ v. nat_le c.in-Some-2.first v.rev.main && matches c.args.pending.watched.now v) c.args.tables.now.versions c.new-walk.ensures.stored.rising)

pub returns-in_ok-message-in-Some-2 : goal.returns-in_ok-message-in-Some-2
returns-in_ok-message-in-Some-2 c =
    let from : List Version → List Version = filter (λ v. nat_le c.in-Some-2.first v.rev.main && matches c.args.pending.watched.now v) in
    ap Delivery.events (c.in_ok-message-in-Some-2.ensures ∙ ap (message_from c.args.tables.now.versions c.args.tables.now.compacted c.args.pending.watched.now) c.new-walk.ensures.value)
    ∙ sym (behind-told c.args.tables.now.versions c.args.tables.now.compacted (pending_view c.args.pending) c.in-Some-2.first c.if-pending.false c.in-Some-2.is c.in-Some.first c.in-Some.is (rw (← c.compacted-compacted.ensures) c.if-first-compacted.false))

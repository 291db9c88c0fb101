-- What a caller is shown of a watch.
use Rattle.watch_hub.specs.declared.hub.Pending.{Pending}
use Rattle.watch_hub.specs.Hub.{PendingWatch}

abbrev pub pending_view : Pending → PendingWatch
pending_view p = record { id = p.id; watched = p.watched.now; late = p.late; first = p.first }

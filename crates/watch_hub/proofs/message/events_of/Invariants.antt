use Rattle.std.proofs.Common.{◌≡◌, take, map}
use Rattle.kv_model.specs.Watches.{event_of}
use Rattle.watch_hub.specs.Messages.{event_view}
use Rattle.watch_hub.proofs.message.events_of.Given as goal

abbrev pub invariant-loop-version : goal.invariant-loop-version
invariant-loop-version l = map event_view l.events.items ≡ map (event_of l.tables.versions l.tables.compacted l.watched) (map (λ v. v.now) (take l.version-index l.versions))

use Rattle.std.proofs.Common.{Some, map, ap}
use Rattle.std.specs.Int.{w64}
use Rattle.std.proofs.lemmas.Int.{to_z-of_z}
use Rattle.kv_model.specs.Answers.{header, result_text, events_text}
use Rattle.watch_hub.specs.Messages.{event_view}
use Rattle.gateway_text.specs.Views.{events_data}
use Rattle.gateway_text.proofs.Objects.{written}
use Rattle.gateway_text.proofs.watches.events_text.Goals as goal

pub returns : goal.returns
unfolding events_text result_text events_data
returns c =
    let made = rw (to_z-of_z w64 c.args.id c.ranges.id) at c.in_ok-write_message.ensures in
    ap Some (written _ _ _ (events_text (header c.args.ids.now c.args.revision) c.args.id (map event_view c.args.events.now)) c.into_bytes.ensures made c.in_ok-out.ensures)

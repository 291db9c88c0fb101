-- What the test of a feed publishes.
use Rattle.std.specs.Prelude.{pos, codes, false, None, List, [], ◌∷◌}
use Rattle.kv_model.specs.Feed.{Published}
use Rattle.kv_model.specs.declared.call.Command.TheVariants as command
use Rattle.kv_model.specs.declared.version.Version.{Version}
use Rattle.kv_model.specs.declared.version.Body.TheVariants.{Put}
use Rattle.kv_model.specs.Follows.Outcome.{said}
use Rattle.kv_model.specs.Wire.WireTold.{untold}
use Rattle.event_book.specs.Events.{Entry, Event, entry}

-- a was put at revision 2
abbrev pub first_put : Version
first_put = record { rev = record { main = 2; sub = 0 }; key = codes "a"; body = Put 2 1 (pos 0) (codes "1") }

-- by this operation
abbrev pub first_ops : List Published
first_ops = Published.batch (first_put ∷ []) ∷ []

-- of this event
abbrev pub first_event : Entry
first_event = entry 0 0 (Event.command 0 (record {
  command = command.Put (record {
    key = codes "a";
    value = codes "1";
    lease = pos 0;
    prev_kv = false;
    ignore_value = false;
    ignore_lease = false;
  });
  request = None;
})) (said untold)

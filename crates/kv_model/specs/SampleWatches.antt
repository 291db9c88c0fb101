-- Worked rows of watches.
use Rattle.std.specs.Prelude.{◌≡◌, refl, ℕ, zero, suc, pos, List, [], ◌∷◌, true, false, None, Some}
use Rattle.kv_model.specs.declared.call.Watched.{Watched}
use Rattle.kv_model.specs.declared.refusal.Refusal.TheVariants.{TooManyWatches}
use Rattle.kv_model.specs.Keys.{one_key}
use Rattle.kv_model.specs.Calls.{Call}
use Rattle.kv_model.specs.Watches.{Delivery}
use Rattle.kv_model.specs.World.{opening}
use Rattle.kv_model.specs.Told.{Reply}
use Rattle.kv_model.specs.SampleRuns.{Event, Told, told_by}
use Rattle.kv_model.specs.OnLiterals.{model_on_literals}
use Rattle.kv_model.specs.Samples.{a, b, one, two, put_event, delete_event, watch_event, compact_event, told, refused}
use Rattle.kv_model.specs.Samples.{put_reply, kv_of, told_events, told_after, put_version, gone_version, put_delete_put}

-- ---- a quiet watch outlives a Compact that passes it

abbrev pub five_puts : List Event
five_puts = put_event b one ∷ put_event b one ∷ put_event b one ∷ put_event b one ∷ put_event b one ∷ []

pub quiet_watch : told_by opening (put_event a one ∷ watch_event a (pos 2) false ∷ Event.deliver 1 ∷ Event.deliver 1
    ∷ [])
    ≡ put_reply 2 ∷ told 2 (Reply.watch (pos 0) 1) ∷ told_events 2 (record {
      version = put_version 2 a 2 1 one;
      before = None;
    } ∷ []) ∷ Told.delivery Delivery.nothing 2 ∷ []
unfolding model_on_literals
quiet_watch = refl

pub quiet_watch_stays : told_after (put_event a one ∷ watch_event a (pos 2) false ∷ Event.deliver 1 ∷ five_puts)
    (compact_event (pos 7) ∷ Event.deliver 1 ∷ put_event a two ∷ Event.deliver 1 ∷ [])
    ≡ told 7 Reply.compact ∷ Told.delivery Delivery.nothing 7 ∷ put_reply 8
    ∷ told_events 8 (record { version = put_version 8 a 2 2 two; before = None } ∷ []) ∷ []
unfolding model_on_literals
quiet_watch_stays = refl

-- a watch with an event below the compaction that it was not told of is cancelled, though it was made in time
pub behind_is_cancelled : told_after (watch_event a (pos 0) false ∷ put_event a one ∷ put_event a two
    ∷ compact_event (pos 3) ∷ []) (Event.deliver 1 ∷ Event.deliver 1 ∷ [])
    ≡ Told.delivery (Delivery.cancelled 3) 3 ∷ Told.delivery Delivery.no_watch 3 ∷ []
unfolding model_on_literals
behind_is_cancelled = refl

-- ---- an event at the compaction is told with its previous value, and a watch that starts below it is cancelled

pub at_the_compaction : told_after (put_event a one ∷ delete_event a ∷ compact_event (pos 3) ∷ [])
    (watch_event a (pos 3) true ∷ Event.deliver 1 ∷ watch_event a (pos 2) true ∷ Event.deliver 2 ∷ Event.deliver 2 ∷ [])
    ≡ told 3 (Reply.watch (pos 0) 1) ∷ told_events 3 (record {
      version = gone_version 3 a;
      before = Some (kv_of a one 2 2 1);
    } ∷ []) ∷ told 3 (Reply.watch (pos 0) 2) ∷ Told.delivery (Delivery.cancelled 3) 3 ∷ Told.delivery Delivery.no_watch 3 ∷ []
unfolding model_on_literals
at_the_compaction = refl

-- ---- filters, previous values, and a start ahead of the store

abbrev pub deletes_of_a : Watched
deletes_of_a = record { range = one_key a; no_put = true; no_delete = false; prev_kv = true }

pub deletes_alone : told_after put_delete_put (Event.command (Call.watch deletes_of_a (pos 2) (pos 5)) ∷ Event.deliver 1
    ∷ Event.deliver 1 ∷ Event.close 1 ∷ Event.close 1 ∷ [])
    ≡ told 4 (Reply.watch (pos 5) 1) ∷ told_events 4 (record {
      version = gone_version 3 a;
      before = Some (kv_of a one 2 2 1);
    } ∷ []) ∷ Told.delivery Delivery.nothing 4
    ∷ Told.closed true ∷ Told.closed false ∷ []
unfolding model_on_literals
deletes_alone = refl

pub starts_ahead : told_after put_delete_put (watch_event a (pos 6) false ∷ put_event a one ∷ Event.deliver 1
    ∷ put_event a two ∷ Event.deliver 1 ∷ [])
    ≡ told 4 (Reply.watch (pos 0) 1) ∷ put_reply 5 ∷ Told.delivery Delivery.nothing 5 ∷ put_reply 6
    ∷ told_events 6 (record { version = put_version 6 a 4 3 two; before = None } ∷ []) ∷ []
unfolding model_on_literals
starts_ahead = refl

-- ---- 1,024 watches are all that stand at once

abbrev pub watches_made : ℕ → List Event
watches_made zero = []
watches_made (suc n) = watch_event a (pos 0) false ∷ watches_made n

pub most_watches_stand : told_after (watches_made 1024) (watch_event a (pos 0) false ∷ Event.close 9
    ∷ watch_event a (pos 0) false ∷ [])
    ≡ refused TooManyWatches ∷ Told.closed true ∷ told 1 (Reply.watch (pos 0) 1025) ∷ []
unfolding model_on_literals
most_watches_stand = refl

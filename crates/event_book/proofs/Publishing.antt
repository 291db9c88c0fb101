-- What readers are told of a list, by its events.
use Rattle.std.proofs.Common.{◌≡◌, ℕ, List, [], ◌∷◌, ◌++◌, length, fold, refl, ap, sym, ◌∙◌, append_assoc, arith}
use Rattle.std.proofs.lemmas.List.{append-nil, drop_all}
use Rattle.std.proofs.lemmas.List.Sums.{fold-append}
use Rattle.kv_model.specs.Commands.{call_of}
use Rattle.kv_model.specs.Follows.{Outcome}
use Rattle.kv_model.specs.History.{dress}
use Rattle.kv_model.specs.Step.{world_of}
use Rattle.kv_model.specs.Watches.{Delivery, after_delivery, deliver}
use Rattle.kv_model.specs.Wire.{WireOutcome}
use Rattle.kv_model.specs.World.{World, opening, versions}
use Rattle.store_laws.specs.Changes.{batch_of, change_between, untrimmed}
use Rattle.store_laws.specs.Snapshots.{grow, nothing_published}
use Rattle.store_laws.proofs.ChangeLaws.{change_added}
use Rattle.store_laws.proofs.FeedLaws.{command_published, expiry_published}
use Rattle.event_book.specs.Events.{Entry, Event, after, clocked, led_to, left_by, made_of}
use Rattle.event_book.specs.Publishing.{change_by, change_made, published_by, published_from}
use Rattle.event_book.specs.PublishingLaws.{PublishedMore, PublishedPrefix, PublishedSays, RefusedIsUntold}

-- ---- one event

delivery_same : (w : World) (n : ℕ) (d : Delivery) → untrimmed (after_delivery w n d) ≡ untrimmed w
delivery_same w n Delivery.no_watch = refl
delivery_same w n Delivery.nothing = refl
delivery_same w n (Delivery.events es) = refl
delivery_same w n (Delivery.cancelled c) = refl

made_says : (w : World) (e : Event) → fold grow (untrimmed w) (change_made w e) ≡ untrimmed (made_of w e)
made_says w (Event.moment now) = refl
made_says w (Event.command now asking) = command_published w (call_of asking.command)
made_says w (Event.expiry now) = expiry_published w
made_says w (Event.delivery number) = sym (delivery_same w number (deliver w number).0)
made_says w (Event.ending number) = refl
made_says w Event.trimming = refl
made_says w Event.certificate = refl

said_by : (w : World) (e : Event) (o : WireOutcome) → fold grow (untrimmed w) (change_by w e o) ≡ untrimmed (left_by w e o)
said_by w e Outcome.memory = refl
said_by w e (Outcome.lost l) = made_says w e
said_by w e (Outcome.said t) = made_says w e

clocked_same : (w : World) (e : Event) → untrimmed w ≡ untrimmed (clocked w e)
clocked_same w (Event.moment now) = refl
clocked_same w (Event.command now asking) = refl
clocked_same w (Event.expiry now) = refl
clocked_same w (Event.delivery number) = refl
clocked_same w (Event.ending number) = refl
clocked_same w Event.trimming = refl
clocked_same w Event.certificate = refl

one_says : (w : World) (e : Entry) → fold grow (untrimmed w) (change_by (clocked w e.event) e.event e.outcome) ≡ untrimmed (after w e)
one_says w e = ap (λ u. fold grow u (change_by (clocked w e.event) e.event e.outcome)) (clocked_same w e.event)
    ∙ said_by (clocked w e.event) e.event e.outcome

-- ---- all of them

says_from : (w : World) (log : List Entry) → fold grow (untrimmed w) (published_from w log) ≡ untrimmed (fold after w log)
says_from w [] = refl
says_from w (e ∷ log) =
    fold-append grow (untrimmed w) (change_by (clocked w e.event) e.event e.outcome) (published_from (after w e) log)
    ∙ (ap (λ u. fold grow u (published_from (after w e) log)) (one_says w e) ∙ says_from (after w e) log)

first_says : nothing_published ≡ untrimmed opening
unfolding dress
first_says = refl

pub published_says : PublishedSays
published_says log = ap (λ u. fold grow u (published_by log)) first_says ∙ says_from opening log

published_append : (w : World) (log more : List Entry)
    → published_from w (log ++ more) ≡ published_from w log ++ published_from (fold after w log) more
published_append w [] more = refl
published_append w (e ∷ log) more =
    ap (λ l. change_by (clocked w e.event) e.event e.outcome ++ l) (published_append (after w e) log more)
    ∙ sym (append_assoc (change_by (clocked w e.event) e.event e.outcome) (published_from (after w e) log) (published_from (fold after (after w e) log) more))

pub published_more : PublishedMore
published_more log e = published_append opening log (e ∷ [])
    ∙ ap (λ l. published_by log ++ l) (append-nil (change_by (clocked (led_to log) e.event) e.event e.outcome))

pub published_prefix : PublishedPrefix
published_prefix xs ys p = (published_from (led_to xs) p.0, sym (published_append opening xs p.0) ∙ ap published_by p.1)

-- ---- what is refused

nothing_between : (w : World) → change_between w w ≡ []
nothing_between w = change_added w w refl ∙ ap batch_of (drop_all (length (versions w)) (versions w) (omega arith))

pub refused_is_untold : RefusedIsUntold
refused_is_untold w call e h = ap (λ m. change_between w (world_of w m)) h ∙ nothing_between w

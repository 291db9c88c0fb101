-- What later events leave as it was.
use Rattle.std.proofs.Common.{◌≡◌, ◌≤◌, inl, inr, ℕ, ◌+◌, List, [], ◌∷◌, fold, false, refl, sym, ◌∙◌, ap, subst, arith}
use mathlib.Core.List.{IsPrefix}
use Rattle.std.specs.List.{AllByRecursion}
use Rattle.std.proofs.lemmas.List.Sums.{fold-append}
use Rattle.kv_model.specs.Commands.{call_of}
use Rattle.kv_model.specs.Calls.{Call}
use Rattle.kv_model.specs.Follows.{Outcome}
use Rattle.kv_model.specs.History.{Mutation, dress, end_of, rev_le, value_at}
use Rattle.kv_model.specs.Step.{expire, perform}
use Rattle.kv_model.specs.Txns.{added_by}
use Rattle.kv_model.specs.Watches.{Delivery, after_delivery, deliver}
use Rattle.kv_model.specs.Wire.{WireOutcome}
use Rattle.kv_model.specs.World.{World, opening, revision, versions}
use Rattle.store_laws.specs.Changes.{untrimmed}
use Rattle.store_laws.specs.Growth.{RaisesByOne}
use Rattle.store_laws.specs.Snapshots.{Untrimmed}
use Rattle.store_laws.proofs.BatchLaws.{dress-added, each-added}
use Rattle.store_laws.proofs.KeyLaws.{live-same}
use Rattle.store_laws.proofs.MoveLaws.{AtMain, Moves, command_moves, expiry_moves}
use Rattle.store_laws.proofs.PlaceLaws.{each-map, rev_le-after, value_at-behind}
use Rattle.store_laws.proofs.RaiseLaws.{command_raises, expiry_raises}
use Rattle.event_book.specs.Events.{Entry, Event, after, clocked, led_to, left_by, made_of}
use Rattle.long_ranges.specs.Laws.{LaterSaysTheSame, RevisionsRise}

-- the revision of the second is not below the first's, up to which both hold the same
pub record Stays (w u : World) : Type 0 where
  pub rises : revision w ≤ revision u
  pub same : (r : ℕ) → r ≤ revision w → (k : List ℕ) → value_at (versions u) (end_of r) k ≡ value_at (versions w) (end_of r) k

as_it_was : (w u : World) → untrimmed w ≡ untrimmed u → Stays w u
as_it_was w u e = record {
  rises = subst (λ n. revision w ≤ n) (ap (λ (x : Untrimmed). x.revision) e) (omega arith);
  same = λ r h k. ap (λ (x : Untrimmed). value_at x.versions (end_of r) k) (sym e);
}

and_on : (w u v : World) → Stays w u → Stays u v → Stays w v
and_on w u v a b = record {
  rises = omega (arith, a.rises, b.rises);
  same = λ r h k. b.same r (omega (arith, h, a.rises)) k ∙ a.same r h k;
}

-- ---- a command, or a step of expiry

above : (w u : World) → RaisesByOne w u → revision w ≤ revision u
above w u (inl h) = omega (arith, h.0)
above w u (inr h) = omega (arith, h.0)

behind : (r : ℕ) (w : World) (us : List Mutation) → r ≤ revision w → AtMain (revision w + 1) us
    → AllByRecursion (λ v. rev_le v.rev (end_of r) ≡ false) (added_by (versions w) us)
behind r w us h at = each-added (λ q k. rev_le q (end_of r) ≡ false) (versions w) us
    (each-map (λ u. u.rev.main ≡ revision w + 1) (λ u. rev_le u.rev (end_of r) ≡ false)
    (λ u e. rev_le-after u.rev (end_of r) (omega (arith, e, h))) us at)

moved_same : (w u : World) → Moves w u → (r : ℕ) → r ≤ revision w → (k : List ℕ) → value_at (versions u) (end_of r) k ≡ value_at (versions w) (end_of r) k
moved_same w u (inl a) r h k =
    ap (λ vs. value_at vs (end_of r) k) (ap dress a.mutations ∙ dress-added w.mutations a.changes)
    ∙ value_at-behind (versions w) (added_by (versions w) a.changes) (end_of r) k (behind r w a.changes h a.at)
moved_same w u (inr m) r h k = ap (λ ms. value_at (dress ms) (end_of r) k) m.mutations

by_command : (w : World) (call : Call) → Stays w (perform w call).1
by_command w call = record {
  rises = above w (perform w call).1 (command_raises w call);
  same = moved_same w (perform w call).1 (command_moves w call);
}

by_expiry : (w : World) → Stays w (expire w).1
by_expiry w = record { rises = above w (expire w).1 (expiry_raises w); same = moved_same w (expire w).1 (expiry_moves w) }

-- ---- any event

delivery_same : (w : World) (n : ℕ) (d : Delivery) → untrimmed w ≡ untrimmed (after_delivery w n d)
delivery_same w n Delivery.no_watch = refl
delivery_same w n Delivery.nothing = refl
delivery_same w n (Delivery.events es) = refl
delivery_same w n (Delivery.cancelled c) = refl

made : (w : World) (e : Event) → Stays w (made_of w e)
made w (Event.moment now) = as_it_was w (made_of w (Event.moment now)) refl
made w (Event.command now asking) = by_command w (call_of asking.command)
made w (Event.expiry now) = by_expiry w
made w (Event.delivery number) = as_it_was w (made_of w (Event.delivery number)) (delivery_same w number (deliver w number).0)
made w (Event.ending number) = as_it_was w (made_of w (Event.ending number)) refl
made w Event.trimming = as_it_was w w refl
made w Event.certificate = as_it_was w w refl

clocked_same : (w : World) (e : Event) → untrimmed w ≡ untrimmed (clocked w e)
clocked_same w (Event.moment now) = refl
clocked_same w (Event.command now asking) = refl
clocked_same w (Event.expiry now) = refl
clocked_same w (Event.delivery number) = refl
clocked_same w (Event.ending number) = refl
clocked_same w Event.trimming = refl
clocked_same w Event.certificate = refl

left : (w : World) (e : Event) (o : WireOutcome) → Stays w (left_by w e o)
left w e Outcome.memory = as_it_was w w refl
left w e (Outcome.lost l) = made w e
left w e (Outcome.said t) = made w e

one : (w : World) (e : Entry) → Stays w (after w e)
one w e = and_on w (clocked w e.event) (after w e) (as_it_was w (clocked w e.event) (clocked_same w e.event)) (left (clocked w e.event) e.event e.outcome)

all : (w : World) (log : List Entry) → Stays w (fold after w log)
all w [] = as_it_was w w refl
all w (e ∷ log) = and_on w (after w e) (fold after (after w e) log) (one w e) (all (after w e) log)

later_stays : (log later : List Entry) → IsPrefix log later → Stays (led_to log) (led_to later)
later_stays log later p = subst (λ (l : List Entry). Stays (led_to log) (led_to l)) p.1
    (subst (λ (w : World). Stays (led_to log) w) (sym (fold-append after opening log p.0)) (all (led_to log) p.0))

pub revisions_rise : RevisionsRise
revisions_rise log later p = (later_stays log later p).rises

pub later_says_the_same : LaterSaysTheSame
later_says_the_same log later p r h range =
    live-same (versions (led_to later)) (versions (led_to log)) (end_of r) range (λ k. (later_stays log later p).same r h k)

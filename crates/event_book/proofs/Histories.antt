-- A history goes on, and what a holder's call says of it.
use Rattle.std.proofs.Common.{◌≡◌, ℕ, List, [], ◌∷◌, ◌++◌, length, fold, refl, ap, sym, subst, ◌∙◌}
use mathlib.Core.List.{IsPrefix}
use Rattle.kv_model.specs.declared.ids.Ids.{Ids}
use Rattle.kv_model.specs.Wire.{WireOutcome}
use Rattle.kv_model.specs.World.{World, opening}
use Rattle.event_book.specs.Callers.{Adds, Caller, Shows}
use Rattle.event_book.specs.Events.{Answers, Entry, Event, FollowsFrom, IsAskedFor, IsHistory, after, clocked, entry, events_by, led_to}
use Rattle.event_book.proofs.Counting.{none_between}

pub follows_more : (ids : Ids) (w : World) (log : List Entry) (e : Entry) → FollowsFrom ids w log
    → Answers ids (clocked (fold after w log) e.event) e.event e.outcome → IsAskedFor e.event → FollowsFrom ids w (log ++ e ∷ [])
follows_more ids w [] e h a asked = (a, asked, tt)
follows_more ids w (x ∷ log) e h a asked = (h.0, h.1, follows_more ids (after w x) log e h.2 a asked)

pub history_more : (ids : Ids) (log : List Entry) (e : Entry) → IsHistory ids log
    → Answers ids (clocked (led_to log) e.event) e.event e.outcome → IsAskedFor e.event → IsHistory ids (log ++ e ∷ [])
history_more ids log e h a asked = follows_more ids opening log e h a asked

-- what an event adds, for its holder
pub added : (ids : Ids) (c later : Caller) (log : List Entry) (about : ℕ) (e : Event) (o : WireOutcome) → IsPrefix c.front log
    → length (events_by c.number log) ≡ length (events_by c.number c.front) → IsHistory ids log
    → Answers ids (clocked (led_to log) e) e o → IsAskedFor e → later.front ≡ log ++ entry c.number about e o ∷ []
    → later.number ≡ c.number → Adds ids c about e o later
added ids c later log about e o p same h a asked is number = record {
  between = p.0;
  others = none_between c.number c.front p.0 (ap (λ l. length (events_by c.number l)) p.1 ∙ same);
  grows = is ∙ ap (λ (l : List Entry). l ++ entry c.number about e o ∷ []) (sym p.1);
  answers = subst (λ (l : List Entry). Answers ids (clocked (led_to l) e) e o) (sym p.1) a;
  asked = asked;
  history = subst (IsHistory ids) (sym is) (history_more ids log (entry c.number about e o) h a asked);
  number = number;
}

-- and what it is shown
pub shown : (c later : Caller) (log : List Entry) → IsPrefix c.front log
    → length (events_by c.number log) ≡ length (events_by c.number c.front) → later.front ≡ log → later.number ≡ c.number → Shows c later
shown c later log p same is number = record {
  between = p.0;
  others = none_between c.number c.front p.0 (ap (λ l. length (events_by c.number l)) p.1 ∙ same);
  grows = is ∙ sym p.1;
  number = number;
}

-- the same, of an entry
pub entered : (ids : Ids) (n : ℕ) (front log new last : List Entry) (x : Entry) → x.by ≡ n → IsPrefix front log
    → length (events_by n log) ≡ length (events_by n front) → IsHistory ids log
    → Answers ids (clocked (led_to log) x.event) x.event x.outcome → IsAskedFor x.event → new ≡ log ++ x ∷ [] → last ≡ new
    → Adds ids (record { number = n; front = front }) x.about x.event x.outcome (record { number = n; front = last })
entered ids n front log new last x by p same h a asked grew is =
    let named : log ++ x ∷ [] ≡ log ++ entry n x.about x.event x.outcome ∷ [] = ap (λ k. log ++ entry k x.about x.event x.outcome ∷ []) by in
    added ids (record { number = n; front = front }) (record { number = n; front = last }) log x.about x.event x.outcome p same h a asked
    (is ∙ (grew ∙ named)) refl

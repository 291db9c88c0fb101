-- What an engine comes to at its end.
use Rattle.std.proofs.Common.{◌≡◌, ◌+◌, ◌++◌, ℕ, All, List, [], ◌∷◌, fold, map, length, refl, sym, ◌∙◌, ap, subst}
use Rattle.std.specs.Prelude.{sum}
use Rattle.std.proofs.lemmas.List.{map-append}
use Rattle.std.proofs.lemmas.List.Elements.{All-append, All-cons, All-nil}
use mathlib.Core.List.{IsPrefix}
use Rattle.kv_model.specs.declared.ids.Ids.{Ids}
use Rattle.store_laws.specs.Stands.{StandsFor}
use Rattle.request_core.specs.State.{CoreState}
use Rattle.event_book.specs.Callers as list
use Rattle.event_book.specs.Callers.{AreAll, Back, Owns, made_by_all}
use Rattle.event_book.specs.Events.{Entry, IsHistory, led_to}
use Rattle.event_book.specs.Raising.{raises}
use Rattle.event_book.proofs.Raising.{raised_all}
use Rattle.engine_lock.specs.Entering.{Closes, made_by}
use Rattle.engine_lock.specs.Locked.{Caller}

-- all that it knows of for its reads begins the list
abbrev pub Known : List Entry → Caller → Type 0
Known log c = IsPrefix c.reader.known log

summed_from : (n : ℕ) (clients : List Caller) → fold ◌+◌ n (map raises (map (λ (c : Caller). c.holder) clients)) ≡ fold ◌+◌ n (map made_by clients)
summed_from n [] = refl
summed_from n (c ∷ clients) = summed_from (n + raises c.holder) clients

summed : (clients : List Caller) → sum (map raises (map (λ (c : Caller). c.holder) clients)) ≡ sum (map made_by clients)
summed clients = summed_from 0 clients

pub closes : (ids : Ids) (core : CoreState) (log : List Entry) (back : List list.Caller) (clients : List Caller) → IsHistory ids log
    → StandsFor core.store (led_to log) → back ≡ map (λ (c : Caller). c.holder) clients → AreAll log back → length log ≡ made_by_all back
    → All (Known log) clients → Closes ids core clients
closes ids core log back clients history stands is all made known =
    let here : AreAll log (map (λ (c : Caller). c.holder) clients) = subst (AreAll log) is all in
    let count : length log ≡ made_by_all (map (λ (c : Caller). c.holder) clients) = made ∙ ap made_by_all is in
    record {
      log = log;
      history = history;
      stands = stands;
      all = here;
      made = count;
      known = known;
      raised = stands.revision_is ∙ raised_all log (map (λ (c : Caller). c.holder) clients) here count ∙ ap (λ n. 1 + n) (summed clients);
    }

-- one client more came back, of which all that it knows of begins the list
pub back_more : (log : List Entry) (r s : Back) (n : ℕ) (yielded : List Caller) (client : Caller) (holder : list.Caller) → holder ≡ client.holder
    → (r.holders ≡ n) × (r.list ≡ map (λ (c : Caller). c.holder) yielded) × All (Owns log) r.list × All (Known log) yielded
    → s ≡ record r { list = r.list ++ holder ∷ [] } → Owns log holder → Known log client
    → (s.holders ≡ n) × (s.list ≡ map (λ (c : Caller). c.holder) (yielded ++ client ∷ [])) × All (Owns log) s.list × All (Known log) (yielded ++ client ∷ [])
back_more log r s n yielded client holder same h is owns known = (
  ap (λ (b : Back). b.holders) is ∙ h.0,
  ap (λ (b : Back). b.list) is ∙ ap (λ l. l ++ holder ∷ []) h.1 ∙ ap (λ x. map (λ (c : Caller). c.holder) yielded ++ x ∷ []) same
      ∙ sym (map-append (λ (c : Caller). c.holder) yielded (client ∷ [])),
  subst (All (Owns log)) (sym (ap (λ (b : Back). b.list) is))
      (All-append (Owns log) r.list (holder ∷ []) h.2 (All-cons (Owns log) holder [] owns (All-nil (Owns log)))),
  All-append (Known log) yielded (client ∷ []) h.3 (All-cons (Known log) client [] known (All-nil (Known log))),
)

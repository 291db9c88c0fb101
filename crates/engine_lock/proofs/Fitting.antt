-- What stands under the lock goes on fitting as an event is entered.
use Rattle.std.proofs.Common.{◌≡◌, List, [], ◌∷◌, ◌++◌, fold, sym, ◌∙◌, ap, subst}
use Rattle.std.proofs.lemmas.List.Sums.{fold-append}
use Rattle.kv_model.specs.declared.ids.Ids.{Ids}
use Rattle.kv_model.specs.Feed.{Published}
use Rattle.kv_model.specs.Questions.{IsGood}
use Rattle.kv_model.specs.World.{World, opening}
use Rattle.store_laws.specs.Snapshots.{Stored, absorb, blank, store_of}
use Rattle.store_laws.specs.Stands.{StandsFor}
use Rattle.request_core.specs.State.{CoreState, tables_of}
use Rattle.snapshot_feed.specs.Showing.{IsShown}
use Rattle.event_book.specs.Events.{Answers, Entry, after, clocked, led_to}
use Rattle.event_book.specs.Publishing.{change_by, published_by}
use Rattle.event_book.proofs.Publishing.{published_more}
use Rattle.engine_lock.specs.Fits.{Fits, MakesOn}

-- a new core, and a feed to which nothing was appended
pub fits_first : (s : CoreState) (log : List Entry) (fed : List Published) → StandsFor s.store opening → tables_of s ≡ blank → log ≡ []
    → fed ≡ [] → Fits s log fed
fits_first s log fed h e none nothing = record {
  stands = subst (λ (l : List Entry). StandsFor s.store (led_to l)) (sym none) h;
  told = nothing ∙ sym (ap published_by none);
  stored = ap store_of nothing ∙ sym e;
}

-- readers may be shown the list
pub fits_shown : (s : CoreState) (log : List Entry) (fed : List Published) → Fits s log fed → IsShown log
fits_shown s log fed f = record {
  sound = f.stands.sound;
  good = subst (λ (t : Stored). IsGood t.versions (led_to log).mutations (led_to log).compacted)
      (sym (ap store_of (sym f.told) ∙ f.stored)) f.stands.good;
}

-- and so a front that has all of it
pub front_shown : (s : CoreState) (log front : List Entry) (fed : List Published) → Fits s log fed → front ≡ log → IsShown front
front_shown s log front fed f is = subst IsShown (sym is) (fits_shown s log fed f)

pub front_tells : (s : CoreState) (log front : List Entry) (fed : List Published) → Fits s log fed → front ≡ log → published_by front ≡ fed
front_tells s log front fed f is = ap published_by is ∙ sym f.told

-- the world behind one event more
led_more : (log : List Entry) (x : Entry) → led_to (log ++ x ∷ []) ≡ after (led_to log) x
led_more log x = fold-append after opening log (x ∷ [])

-- An event was made: first its moment came to the core, if it has one, and then it was made on the core and told to the feed.
pub fits_entered : (ids : Ids) (old mid new : CoreState) (log : List Entry) (fed more : List Published) (x : Entry) → Fits old log fed
    → ((w : World) → StandsFor old.store w → StandsFor mid.store (clocked w x.event)) → tables_of mid ≡ tables_of old
    → MakesOn ids x.event x.outcome mid new fed more → Fits new (log ++ x ∷ []) more
fits_entered ids old mid new log fed more x f moved kept made = record {
  stands = subst (StandsFor new.store) (sym (led_more log x)) (made.stands at here);
  told = made.told at here ∙ ap (λ (l : List Published). l ++ change) f.told ∙ sym (published_more log x);
  stored = ap store_of (made.told at here) ∙ fold-append absorb blank fed change
      ∙ ap (λ (t : Stored). fold absorb t change) (f.stored ∙ sym kept) ∙ sym (made.stored at here);
}
  where
    at : World
    at = clocked (led_to log) x.event

    here : StandsFor mid.store at
    here = moved (led_to log) f.stands

    change : List Published
    change = change_by at x.event x.outcome

-- so its outcome is the model's in the world of the list
pub answers_entered : (ids : Ids) (old mid new : CoreState) (log : List Entry) (fed more : List Published) (x : Entry) → Fits old log fed
    → ((w : World) → StandsFor old.store w → StandsFor mid.store (clocked w x.event))
    → MakesOn ids x.event x.outcome mid new fed more → Answers ids (clocked (led_to log) x.event) x.event x.outcome
answers_entered ids old mid new log fed more x f moved made =
    made.answers (clocked (led_to log) x.event) (moved (led_to log) f.stands)

-- A put of a new store may be shown.
use Rattle.std.proofs.Common.{◌≡◌, pos, codes, [], ◌∷◌, refl, sym, subst, arith, List}
use Rattle.kv_model.specs.Feed.{Published}
use Rattle.kv_model.specs.History.{Action, Mutation, dress}
use Rattle.kv_model.specs.Lists.{nothing, keep}
use Rattle.kv_model.specs.OnLiterals.{model_on_literals}
use Rattle.kv_model.specs.Questions.{IsGood}
use Rattle.kv_model.specs.World.{World, opening, changed}
use Rattle.store_laws.specs.Snapshots.{store_of}
use Rattle.store_laws.specs.Sound.{IsSound}
use Rattle.event_book.specs.Events.{led_to}
use Rattle.event_book.specs.Publishing.{published_by}
use Rattle.snapshot_feed.specs.Showing.{IsShown}
use Rattle.table_tests.specs.Puts.{first_event, first_put}

abbrev change : Mutation
change = record { rev = record { main = 2; sub = 0 }; key = codes "a"; action = Action.put (codes "1") (pos 0) }

abbrev behind : World
behind = changed opening (change ∷ [])

abbrev told : List Published
told = Published.batch (first_put ∷ []) ∷ []

put_leads : behind ≡ led_to (first_event ∷ [])
unfolding model_on_literals
put_leads = refl

pub put_is_told : published_by (first_event ∷ []) ≡ Published.batch (first_put ∷ []) ∷ []
unfolding model_on_literals
put_is_told = refl

put_is_sound : IsSound behind
put_is_sound = record {
  history = (record { behind = omega arith; number = omega arith; has_key = λ e. absurd (cc e) }, tt, tt);
  floor = omega arith;
}

put_is_good : IsGood (store_of told).versions behind.mutations behind.compacted
unfolding dress
put_is_good = record { part = keep nothing; answers = λ q a. refl }

pub put_is_shown : IsShown (first_event ∷ [])
put_is_shown = record {
  sound = subst IsSound put_leads put_is_sound;
  good = subst (λ (ops : List Published). IsGood (store_of ops).versions (led_to (first_event ∷ [])).mutations (led_to (first_event ∷ [])).compacted) (sym put_is_told)
      (subst (λ (w : World). IsGood (store_of told).versions w.mutations w.compacted) put_leads put_is_good);
}

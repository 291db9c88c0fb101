-- Where runs, stores and feeds begin.
use Rattle.std.proofs.Common.{arith, [], ◌∷◌, refl}
use Rattle.std.proofs.lemmas.List.Sums.{fold-append}
use Rattle.kv_model.specs.Lists.{nothing}
use Rattle.kv_model.specs.Questions.{IsGood}
use Rattle.store_laws.specs.Snapshots.{absorb, blank}
use Rattle.store_laws.specs.Laws.{EmptyRunIsRun, BlankStands, OpeningIsSound, FeedGoesOn}
use Rattle.kv_model.specs.History.{dress}

nothing_good : IsGood [] [] 0
unfolding dress
nothing_good = record { part = nothing; answers = λ q a. refl }

pub empty_run : EmptyRunIsRun
empty_run ids = record { follows = tt; keeps = nothing_good }

pub opening_sound : OpeningIsSound
opening_sound = record { history = tt; floor = omega arith }

pub blank_good : BlankStands
blank_good = record {
  sound = opening_sound;
  good = nothing_good;
  revision_is = refl;
  compacted = refl;
  leases = refl;
  clock = refl;
  made = refl;
  watches = tt;
}

pub feed_on : FeedGoesOn
feed_on ops op = fold-append absorb blank ops (op ∷ [])

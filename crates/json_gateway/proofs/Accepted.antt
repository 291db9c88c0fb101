-- An accepted command is counted as the model says that it changes the world.
use Rattle.std.proofs.Common.{◌≡◌, Bool, true, false, cond, nat_lt, None, Some, Ok, Err, refl, ◌∙◌, ap}
use Rattle.std.specs.Prelude.{◌||◌, is_some}
use Rattle.kv_model.specs.Calls.{Call}
use Rattle.kv_model.specs.Step.{Made, made_in, answer_of as answer_of_made, world_of}
use Rattle.kv_model.specs.Wire.{changes_beside, raised}
use Rattle.kv_model.specs.World.{World, revision}
use Rattle.store_laws.specs.Stands.{StandsFor}
use Rattle.request_core.specs.declared.answer.Receipt.{Receipt}
use Rattle.request_core.specs.State.{CoreState, stamp_after}
use Rattle.request_core.specs.Answers.{answer_of, has_changed}
use Rattle.request_core.specs.Commands.{Does}
use Rattle.json_gateway.specs.Endings.{IsCounted, is_change}

counted-by : (old new : CoreState) (b c : Bool) → b ≡ c → (b ≡ false → new ≡ old) → new.stamp ≡ stamp_after b old.stamp → IsCounted c old new
counted-by old new b true e same one = one ∙ ap (λ d. stamp_after d old.stamp) e
counted-by old new b false e same one = same e

some-raised : (w u : World) → is_some (raised w u) ≡ nat_lt (revision w) (revision u)
some-raised w u = by (nat_lt (revision w) (revision u))
  where
    by : (b : Bool) → is_some (cond b (Some (revision u)) None) ≡ b
    by true = refl
    by false = refl

pub accepted_counted : (old new : CoreState) (r : Receipt) (call : Call) → Does old new call r → (w : World) → StandsFor old.store w
    → IsCounted (is_change w call (made_in w call)) old new
accepted_counted old new r call d w h = by (made_in w call) (d.accepted w h).answers (d.accepted w h).raised
  where
    by : (m : Made) → answer_of_made m ≡ Ok (answer_of r new) → r.raised ≡ raised w (world_of w m) → IsCounted (is_change w call m) old new
    by (Err e) answers up = cc
    by (Ok made) answers up = counted-by old new (has_changed r) (nat_lt (revision w) (revision made.1) || changes_beside w call)
        (λ i. (ap is_some up ∙ some-raised w made.1) i || d.beside w h i) d.unchanged d.stamp

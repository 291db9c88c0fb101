-- What a sink is told of a command that ends so.
use Rattle.std.proofs.lemmas.List.{append-nil}
use Rattle.std.proofs.Common.{◌≡◌, ◌==◌, List, [], ◌++◌, Bool, true, false, refl, sym, ◌∙◌, ap, subst}
use Rattle.kv_model.specs.Answers.{Response}
use Rattle.kv_model.specs.Calls.{Call}
use Rattle.kv_model.specs.Feed.{Published}
use Rattle.kv_model.specs.Headline.{Keeping}
use Rattle.kv_model.specs.Step.{perform}
use Rattle.kv_model.specs.World.{World, added}
use Rattle.store_laws.specs.Changes.{Takes, batch_of, change_of}
use Rattle.store_laws.specs.Stands.{StandsFor}
use Rattle.store_laws.proofs.ChangeLaws.{change_added}
use Rattle.request_core.specs.declared.answer.Receipt.{Receipt}
use Rattle.request_core.specs.Answers.{has_changed}
use Rattle.request_core.specs.Commands.{Does, IsToldChange}
use Rattle.request_core.specs.State.{CoreState}
use Rattle.request_core.proofs.Worlds.{behind-same}
use Rattle.json_gateway.specs.declared.outcome.Settled.{Settled}
use Rattle.json_gateway.specs.declared.outcome.Settled.TheVariants as settled
use Rattle.json_gateway.specs.Endings.{Settles}
use Rattle.json_gateway.specs.Outcomes.{is_accepted}

-- where the core is as it was, the model publishes nothing
nothing_published : (old new : CoreState) (call : Call) (r : Receipt) → Does old new call r → new ≡ old → (w : World) → StandsFor old.store w
    → change_of w call ≡ []
nothing_published old new call r d same w h =
    let k : StandsFor old.store (perform w call).1 = subst (λ (s : CoreState). StandsFor s.store (perform w call).1) same (d.accepted w h).stands in
    let all : old.store.versions ≡ old.store.versions ++ added w (perform w call).1
    = sym (ap (λ (s : CoreState). s.store.versions) same) ∙ ap (λ (k : Keeping). k.kept) (d.accepted w h).keeps in
    let none : [] ≡ added w (perform w call).1
    = behind-same old.store.versions [] (added w (perform w call).1) (append-nil old.store.versions ∙ all) in
    change_added w (perform w call).1 (sym k.compacted ∙ h.compacted) ∙ ap batch_of (sym none)

-- an accepted command that ends as one that is not has changed nothing, and told nothing
pub accepted_untold : {X : Type 0} (takes : X → Published → X → Type 0) (f g : X) (old new : CoreState) (call : Call) (r : Receipt) (s : Settled)
    (a : Response) → a.status ≡ 200 → Does old new call r → Settles s a (has_changed r) r.revision → IsToldChange takes old.store call f g
    → (w : World) → StandsFor old.store w → is_accepted s ≡ false → g ≡ f
accepted_untold takes f g old new call r settled.Memory a good d e told w h off =
    subst (λ ops. Takes takes ops f g) (nothing_published old new call r d (d.unchanged e) w h) (told w h)
accepted_untold takes f g old new call r (settled.Lost n) a good d e told w h off = let bad : true ≡ false = off in cc
accepted_untold takes f g old new call r (settled.Reply p) a good d e told w h off =
    let yes : is_accepted (settled.Reply p) ≡ true = ap (λ (x : Response). x.status == 200) e ∙ ap (λ n. n == 200) good in
    let bad : true ≡ false = sym yes ∙ off in cc

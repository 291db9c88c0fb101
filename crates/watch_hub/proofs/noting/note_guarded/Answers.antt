use Rattle.std.proofs.Common.{◌≡◌, ◌+◌, ◌∷◌, [], drop, option_map, sym, ◌∙◌, ap}
use Rattle.std.proofs.lemmas.List.{drop_more}
use Rattle.store_laws.specs.Stands.{noted}
use Rattle.watch_hub.specs.Entries.{seen_in}
use Rattle.watch_hub.proofs.Noted.{guarded-noted, reached-noted, each-later}
use Rattle.watch_hub.proofs.noting.note_guarded.Goals as goal

pub loop-version-preserved : goal.loop-version-preserved
loop-version-preserved c =
    let vs = c.args.versions.now in
    let now = c.args.now in
    let v = c.version-item.result in
    let rest = drop (c.loop-version.version-index + 1) vs in
    let old = seen_in c.loop-version.slab in
    let new = seen_in c.note_key.new.slab in
    let each = c.note_key.ensures.each in
    let kept = c.loop-version.invariant in
    let next : drop c.loop-version.version-index vs ≡ v ∷ rest
    = drop_more vs c.loop-version.version-index v c.loop-version-test.true ∙ ap (λ u. u ∷ rest) (sym c.version-item.is) in (
      λ place. ap (option_map (noted rest now)) (each place) ∙ each-later v rest now (old place) (kept.2 place)
          ∙ ap (λ us. option_map (noted us now) (old place)) (sym next) ∙ kept.0 place,
      guarded-noted (v ∷ []) now old new each c.args.guards.now kept.1,
      reached-noted (v ∷ []) now old new each kept.2,
      c.note_key.ensures.count ∙ kept.3,
    )

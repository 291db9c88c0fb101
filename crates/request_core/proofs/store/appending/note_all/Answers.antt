-- A part is noted as if its revision were the one before.
use Rattle.std.proofs.Common.{◌≡◌, ◌++◌, map, sym, ◌∙◌, ap, subst}
use Rattle.kv_model.specs.declared.version.Version.{Version}
use Rattle.store_laws.specs.Stands.{noted}
use Rattle.watch_hub.specs.Hub.{Hub}
use Rattle.range_view.specs.Stored.{AreOf}
use Rattle.request_core.proofs.Noting.{each-back, parts}
use Rattle.std.specs.Prelude.{◌==◌, true}
use Rattle.request_core.proofs.store.appending.note_all.Goals as goal

pub loop-slice-preserved : goal.loop-slice-preserved
loop-slice-preserved c =
    let at = c.loop-slice in
    let now = c.args.now in
    let slice = c.in-Some.slice.now in
    let rest = c.next_slice.new.self in
    let whole : at.versions ≡ slice ++ rest = c.in-Some.ensures.0 in
    let newest : AreOf now rest =
    each-back (λ (v : Version). (v.rev.main == now) ≡ true) slice rest (subst (AreOf now) whole at.invariant.newest) in
    record {
      newest = newest;
      made = ap (λ (h : Hub). h.made) c.note.ensures ∙ at.invariant.made;
      watches = ap (λ (h : Hub). map (noted rest now) h.watches) c.note.ensures
          ∙ parts now c.args.before slice rest at.hub.watches c.requires.next newest
          ∙ ap (λ us. map (noted us now) at.hub.watches) (sym whole) ∙ at.invariant.watches;
    }

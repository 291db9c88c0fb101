use Rattle.std.proofs.Common.{◌≡◌, ◌∙◌, ◌∷◌, ◌+◌, drop, sym, ap, subst}
use Rattle.std.proofs.lemmas.List.{drop_more}
use Rattle.kv_model.specs.declared.version.Version.{Version}
use Rattle.lease_keys.proofs.Holding.{AddsOn, partly-on, put-on}
use Rattle.lease_keys.proofs.index.LeaseKeys.add_all.Goals as goal

pub loop-version-preserved : goal.loop-version-preserved
loop-version-preserved c =
    let at = c.loop-version in
    let v = c.version-item.result in
    let all = c.args.versions.now in
    let rest = drop (at.version-index + 1) all in
    let start = c.args.self.now in
    let left : drop at.version-index all ≡ v ∷ rest =
    drop_more all at.version-index v c.loop-version-test.true ∙ ap (λ (w : Version). w ∷ rest) (sym c.version-item.is) in
    let on = subst (λ vs. AddsOn vs all start at.self) left at.invariant.on in
    record {
      on = put-on v rest all start at.self c.add_version.new.self on c.in_default.ensures.ok;
      partly = partly-on v rest all start at.self c.add_version.new.self on c.in_default.ensures.ok at.invariant.partly;
    }

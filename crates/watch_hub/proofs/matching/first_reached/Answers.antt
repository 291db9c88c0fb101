use Rattle.std.proofs.Common.{◌&&◌, option_copied, option_map, sym, ◌∙◌, ap, Option}
use Rattle.kv_model.specs.declared.version.Version.{Version}
use Rattle.kv_model.specs.Watches.{matches}
use Rattle.store_laws.specs.Stands.{is_reached}
use Rattle.watch_hub.proofs.Matches.{first-found}
use Rattle.watch_hub.proofs.matching.first_reached.Goals as goal

pub returns-in-Some : goal.returns-in-Some
returns-in-Some c = sym (first-found (λ v. is_reached c.args.ahead v.rev.main && matches c.args.watched.now v) c.args.versions.now
    ∙ ap (λ (o : Option Version). option_map (λ v. v.rev.main) o) (sym c.find_reached.ensures ∙ ap option_copied c.in-Some.is))

pub returns-in-None : goal.returns-in-None
returns-in-None c = sym (first-found (λ v. is_reached c.args.ahead v.rev.main && matches c.args.watched.now v) c.args.versions.now
    ∙ ap (λ (o : Option Version). option_map (λ v. v.rev.main) o) (sym c.find_reached.ensures ∙ ap option_copied c.in-None.is))

-- Of one key by the index, and else among all.
use Rattle.kv_model.specs.Watches.{matches}
use Rattle.std.proofs.Common.{◌≡◌, ◌∙◌, ap, filter, List, sym, true}
use Rattle.kv_model.specs.Lists.{is_empty}
use Rattle.kv_model.specs.declared.version.Version.{Version}
use Rattle.watch_hub.proofs.Matches.{filter-key, length-empty, one-key}
use Rattle.watch_hub.proofs.walk.source_of.Goals as goal

pub returns-then-is_empty-clause-matched : goal.returns-then-is_empty-clause-matched
returns-then-is_empty-clause-matched c =
    let r = c.args.watched.now.range in
    let bare : is_empty r.end ≡ true = sym (length-empty r.end) ∙ sym c.is_empty.ensures ∙ c.if-is_empty.true in
    ap (λ (vs : List Version). filter (matches c.args.watched.now) vs) c.versions_of.ensures.value
    ∙ filter-key c.args.next c.args.watched.now r.key (one-key r bare) c.args.tables.now.versions

pub returns-clause-matched : goal.returns-clause-matched
returns-clause-matched c = c.all_from.ensures.from (matches c.args.watched.now)

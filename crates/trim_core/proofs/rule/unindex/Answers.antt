-- Whether the next revision of the key is below the compaction the index tells.
use Rattle.std.proofs.Common.{◌∙◌, ◌&&◌, ◌||◌, ap}
use Rattle.std.specs.Prelude.{nat_lt}
use Rattle.kv_model.specs.History.{is_superseded, is_tombstone}
use Rattle.trim_core.proofs.Stepping.{superseded-followed}
use Rattle.trim_core.proofs.rule.unindex.Goals as goal

pub returns-clause-told : goal.returns-clause-told
returns-clause-told c = λ vs r a.
    let v = c.args.version.now in
    c.trim.ensures.told
    ∙ ap (λ b. b || c.is_passed_tombstone-passed.result) (superseded-followed c.args.index.now vs v c.saturating_sub-below.result r a)
    ∙ ap (λ b. is_superseded vs c.saturating_sub-below.result v || b) c.is_passed_tombstone-passed.ensures
    ∙ ap (λ n. is_superseded vs n v || (is_tombstone v.body && nat_lt v.rev.main c.args.compacted)) c.saturating_sub-below.ensures

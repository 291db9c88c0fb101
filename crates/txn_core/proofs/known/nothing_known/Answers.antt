-- At first no range is emptied, and the live keys are those before the first change.
use Rattle.std.proofs.Common.{◌+◌, ◌∙◌, ap}
use Rattle.kv_model.specs.declared.version.Rev.{Rev}
use Rattle.range_view.specs.Stored.{Viewed}
use Rattle.txn_core.proofs.known.nothing_known.Goals as goal

pub returns : goal.returns
returns c =
    let s = c.args.tables.now in
    let at : Rev → Viewed = λ p. record { versions = s.versions; compacted = s.compacted; revision = c.args.before; place = p } in
    record {
      emptied = c.none_emptied.ensures s.versions (c.args.before + 1) 0;
      keys = c.new.ensures ∙ c.view_before.ensures ∙ ap at c.place_before.ensures;
      changes = tt;
    }

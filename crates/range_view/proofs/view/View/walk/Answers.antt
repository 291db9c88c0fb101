-- A range without an end is that of its key.
use Rattle.std.proofs.Common.{◌∙◌, sym, subst}
use Rattle.std.specs.Prelude.{IfOk}
use Rattle.kv_model.specs.declared.version.KeyRange.{KeyRange}
use Rattle.kv_model.specs.Ranges.{live}
use Rattle.range_view.specs.Selecting.{IsFound}
use Rattle.range_view.proofs.Live.{only_key}
use Rattle.range_view.proofs.view.View.walk.Goals as goal

pub returns-then-is_empty : goal.returns-then-is_empty
returns-then-is_empty c =
    subst (λ (r : KeyRange). IfOk c.walk_one.result (λ found. IsFound c.args.query.now found (live c.args.self.now.versions c.args.place r)))
    (only_key c.args.query.now.range (sym c.is_empty.ensures ∙ c.if-is_empty.true)) c.walk_one.ensures

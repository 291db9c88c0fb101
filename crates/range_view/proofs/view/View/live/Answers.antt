-- A range without an end is that of its key.
use Rattle.std.proofs.Common.{◌≡◌, ◌∙◌, sym, subst, map}
use Rattle.std.specs.Prelude.{IfOk}
use Rattle.kv_model.specs.declared.version.KeyRange.{KeyRange}
use Rattle.kv_model.specs.Ranges.{live}
use Rattle.range_view.specs.Replies.{kv_view}
use Rattle.range_view.proofs.Live.{only_key}
use Rattle.range_view.proofs.view.View.live.Goals as goal

pub returns-then-is_empty : goal.returns-then-is_empty
returns-then-is_empty c =
    subst (λ (r : KeyRange). IfOk c.live_one.result (λ kvs. map kv_view kvs.items ≡ live c.args.self.now.versions c.args.self.now.place r))
    (only_key c.args.range.now (sym c.is_empty.ensures ∙ c.if-is_empty.true)) c.live_one.ensures

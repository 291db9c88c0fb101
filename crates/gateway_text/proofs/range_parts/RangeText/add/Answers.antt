use Rattle.std.proofs.Common.{sym, ◌∙◌}
use Rattle.gateway_text.proofs.Objects.{on_ok}
use Rattle.gateway_text.proofs.RangeParts.{some_added}
use Rattle.gateway_text.proofs.range_parts.RangeText.add.Goals as goal

pub returns : goal.returns
returns c ids revision count seen h =
    on_ok c.items.result _ _
    (λ e. some_added ids revision count seen c.args.self.now _ c.begin_list.new.self.text c.args.kvs.now
    (sym c.is_empty.ensures ∙ c.if-is_empty.false) c.in_ok-begin_list.ensures.text e c.in_ok-begin_list.ensures.begun h)
    c.items.ensures

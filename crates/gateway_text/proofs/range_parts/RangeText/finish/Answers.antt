use Rattle.kv_model.specs.Answers.{reply_text}
use Rattle.gateway_text.proofs.RangeParts.{ended}
use Rattle.gateway_text.proofs.range_parts.RangeText.finish.Goals as goal

pub returns : goal.returns
unfolding reply_text
returns c ids revision count seen h =
    ended ids revision count seen c.args.self c.end_list.new.text c.end_object.new.self c.into_bytes.result.items
    c.in_ok-end_list.ensures c.in_ok-end_object.ensures c.into_bytes.ensures h

use Rattle.std.proofs.Common.{Some, map, ap}
use Rattle.std.specs.Int.{w64}
use Rattle.std.proofs.lemmas.Int.{to_z-of_z}
use Rattle.kv_model.specs.Answers.{header, result_text, cancelled_text}
use Rattle.gateway_text.specs.Views.{cancelled_data}
use Rattle.gateway_text.proofs.Objects.{written}
use Rattle.gateway_text.proofs.watches.cancelled_text.Goals as goal

pub returns : goal.returns
unfolding cancelled_text result_text cancelled_data
returns c =
    let made = rw (to_z-of_z w64 c.args.id c.ranges.id) at c.in_ok-write_message.ensures in
    ap Some (written _ _ _ (cancelled_text (header c.args.ids.now c.args.revision) c.args.id c.args.compacted) c.into_bytes.ensures made c.in_ok-out.ensures)

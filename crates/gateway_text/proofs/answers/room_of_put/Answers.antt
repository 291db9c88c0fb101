use Rattle.std.proofs.Common.{arith}
use Rattle.kv_model.specs.Answers.{header}
use Rattle.range_view.specs.Replies.{kv_view}
use Rattle.gateway_text.specs.Rooms.{kv_len, text_len}
use Rattle.gateway_text.proofs.Lengths.{held-most}
use Rattle.gateway_text.proofs.answers.room_of_put.Goals as goal

pub returns-clause-least : goal.returns-clause-least
returns-clause-least c =
    let h = header c.args.ids.now c.args.revision in
    let most = held-most h (kv_view c.args.held.now) (text_len h) (kv_len c.args.held.now) (omega arith) (omega arith) in
    omega (arith, most, c.room_of_kv.ensures.least, c.room_of_header.ensures.least, c.saturating_add.ensures)

use Rattle.std.proofs.Common.{true, Err}
use Rattle.http_reply.specs.Replies.{chunk, stream_head}
use Rattle.http_loop.proofs.Chunks.{created_cut, head_cut, streamed_whole}
use Rattle.http_loop.proofs.Texts.{of_writing}
use Rattle.http_loop.proofs.streaming.stream.Goals as goal

pub returns-in-Ok-write_message-clause-does : goal.returns-in-Ok-write_message-clause-does
returns-in-Ok-write_message-clause-does g c =
    streamed_whole _ (g.A.Answering.Tells c.args.by.now) c.args.number c.args.created.now c.args.state.now _ _ c.in-Ok.field-0 c.in-Ok.ensures.writes _ _ c.write_messages.new.state
    c.in-Ok-write_message.field-0 c.write_messages.result c.in-Ok-write_message.ensures.writes c.write_messages.ensures.does

pub returns-in-Err-write_message-clause-does : goal.returns-in-Err-write_message-clause-does
returns-in-Err-write_message-clause-does g c =
    created_cut _ (g.A.Answering.Tells c.args.by.now) c.args.number c.args.created.now c.args.state.now _ _ c.in-Ok.field-0 c.in-Ok.ensures.writes _ c.in-Err-write_message.front
    c.in-Err-write_message.ensures.writes

pub returns-in-Err-clause-does : goal.returns-in-Err-clause-does
returns-in-Err-clause-does g c =
    head_cut _ (g.A.Answering.Tells c.args.by.now) c.args.number c.args.created.now c.args.state.now _ _ c.in-Err.front c.in-Err.ensures.writes

pub returns-in-Err-write_message-clause-ends : goal.returns-in-Err-write_message-clause-ends
returns-in-Err-write_message-clause-ends g c = of_writing true (chunk c.args.created.now) _ _ (Err c.in-Err-write_message.front) c.in-Err-write_message.ensures.writes

pub returns-in-Err-clause-ends : goal.returns-in-Err-clause-ends
returns-in-Err-clause-ends g c = of_writing true stream_head _ _ (Err c.in-Err.front) c.in-Err.ensures.writes

use Rattle.std.proofs.Common.{ap, ◌∙◌}
use Rattle.http_reply.specs.Replies.{refusal_bytes}
use Rattle.http_reply.proofs.Refused.{head_refused, length_refused, long_refused}
use Rattle.http_reply.proofs.refusals.refusal_body.Goals as goal

pub returns-in-Head : goal.returns-in-Head
returns-in-Head c = ap refusal_bytes c.in-Head.is ∙ head_refused

pub returns-in-Length : goal.returns-in-Length
returns-in-Length c = ap refusal_bytes c.in-Length.is ∙ length_refused

pub returns-in-TooLong : goal.returns-in-TooLong
returns-in-TooLong c = ap refusal_bytes c.in-TooLong.is ∙ long_refused

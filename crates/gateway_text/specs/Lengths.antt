-- The length of what an operation of a transaction is answered.
use Rattle.std.specs.Prelude.{ℕ, ◌+◌}
use Rattle.range_view.specs.declared.reply.OpReply.{OpReply}
use Rattle.gateway_text.specs.Rooms.{text_len}
use Rattle.gateway_text.specs.Views.{response_of}

-- in a list, with the comma before it, where the transaction ends at a revision
abbrev pub response_len : ℕ → OpReply → ℕ
response_len r o = 1 + text_len (response_of r o)

use Rattle.std.proofs.Common.{◌≡◌, ◌++◌, take}
use Rattle.std.specs.List.{flat_map}
use Rattle.gateway_text.specs.Tokens.{data_tokens}
use Rattle.gateway_text.specs.Views.{response_of}
use Rattle.gateway_text.proofs.transactions.+responses.Given as goal

abbrev pub invariant-write_items-loop-reply : goal.invariant-write_items-loop-reply
invariant-write_items-loop-reply l = l.out ≡ l.initial.out ++ flat_map (λ o. data_tokens (response_of l.revision o))
    (take l.reply-index l.replies)

use Rattle.std.proofs.Common.{◌≡◌, ◌∙◌, string_bytes, length, ap, sym, arith}
use Rattle.command_words.specs.Arguments.{word_of}
use Rattle.command_words.proofs.CommandLine.{are_command, some_named}
use Rattle.command_words.proofs.filters.without_memory.Goals as goal

pub returns-in-len2-clause-other : goal.returns-in-len2-clause-other
returns-in-len2-clause-other c = λ none.
    let (command, word) = some_named c.named.result _ c.as_str.result.now c.named.ensures (sym c.is_some.ensures ∙ c.if-is_some.true) in
    let same : string_bytes c.word-item.result ≡ word_of command = sym c.as_str.ensures.value ∙ word in
    let least = c.in-len2.len_at_least in
    let below = c.in-len2.len_below in
    let two : length c.args.words.now ≡ 2 = omega (arith, least, below) in
    absurd (none command (are_command string_bytes c.args.words.now c.word-item.result command two (sym (ap string_bytes c.word-item.is) ∙ same)))

use Rattle.std.proofs.Common.{◌∙◌, string_bytes}
use Rattle.clap.proofs.WalkLemmas.{list_any-map}
use Rattle.command_words.specs.Advice.{is_word}
use Rattle.command_words.proofs.advice.has.Goals as goal

pub returns : goal.returns
returns c = c.is_any.ensures ∙ list_any-map (is_word c.args.wanted.now) string_bytes c.args.words.now

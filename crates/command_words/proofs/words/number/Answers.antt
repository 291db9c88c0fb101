use Rattle.std.proofs.Common.{◌≡◌, ◌∙◌, ap, Option, Some}
use Rattle.clap.specs.Walk.{Rule, rule_of}
use Rattle.clap.specs.declared.builder.value_parser.ValueParser.{ValueParser}
use Rattle.clap.specs.declared.builder.value_parser.ValueParser.TheVariants as value
use Rattle.command_words.proofs.words.number.Goals as goal

pub returns-clause-rule : goal.returns-clause-rule
returns-clause-rule c =
    let (given, is, same) = c.value_parser-2.ensures.given in
    let number : Option ValueParser = Some (value.Unsigned 0 18446744073709551615) in
    let parser : c.value_parser-2.result.value_parser ≡ number = is ∙ ap (λ p. Some p) (same ∙ c.value_parser.ensures) in
    ap rule_of c.value_parser-2.ensures.others
    ∙ (λ i. rule_of (record (c.long.ensures i) { value_parser = parser i }))
    ∙ ap (λ (r : Rule). record r { long = Some c.args.name.now; parser = number }) c.new.ensures.rule

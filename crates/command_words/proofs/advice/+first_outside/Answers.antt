use Rattle.std.proofs.Common.{◌∙◌, sym, ap, map, string_bytes}
use Rattle.std.proofs.lemmas.List.{nil_from_length}
use Rattle.command_words.specs.Advice.{first_outside, outside}
use Rattle.command_words.proofs.FirstOutside.{told_here, told_later}
use Rattle.command_words.proofs.advice.+first_outside.Goals as goal

pub returns-in-Some-outside : goal.returns-in-Some-outside
returns-in-Some-outside t c = told_here c.args.serves c.args.option.now (string_bytes c.in-Some.word.now) _ (map string_bytes c.in-Some.rest.now) c.outside.result c.in-Some-outside.told
    (ap (λ ws. map string_bytes ws) c.in-Some.ensures.cases.0) (c.outside.ensures ∙ ap (outside c.args.serves c.args.option.now) c.as_str.ensures.value) c.in-Some-outside.is

pub returns-in-None-outside : goal.returns-in-None-outside
returns-in-None-outside t c = told_later c.args.serves c.args.option.now (string_bytes c.in-Some.word.now) _ (map string_bytes c.in-Some.rest.now) c.outside.result c.first_outside.result
    (ap (λ ws. map string_bytes ws) c.in-Some.ensures.cases.0) (c.outside.ensures ∙ ap (outside c.args.serves c.args.option.now) c.as_str.ensures.value) c.in-None-outside.is
    (c.first_outside.ensures ∙ ap (λ word. first_outside c.args.serves word (map string_bytes c.in-Some.rest.now)) c.as_str-in-None-outside.ensures.value)

pub returns-in-None : goal.returns-in-None
returns-in-None t c = sym (ap (λ ws. first_outside c.args.serves c.args.option.now (map string_bytes ws)) (nil_from_length c.args.words.now c.in-None.ensures.cases))

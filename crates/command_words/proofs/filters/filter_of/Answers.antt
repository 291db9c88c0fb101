use Rattle.std.proofs.Common.{◌≡◌, ◌∙◌, map, string_bytes, ap, sym, subst}
use Rattle.std.proofs.lemmas.List.{length-map}
use Rattle.std.specs.Prelude.{IfOk, IfErr, Result}
use Rattle.clap.specs.Simple.{App}
use Rattle.clap.specs.Takes.{takes}
use Rattle.command_words.proofs.CommandLine.{is_answered, is_taken}
use Rattle.command_words.specs.declared.filters.Filter.{Filter}
use Rattle.commands.specs.declared.fault.Fault.{Fault}
use Rattle.commands.specs.declared.fault.Fault.TheVariants as fault
use Rattle.command_words.specs.Arguments.{IsCommand, IsNoCommand}
use Rattle.command_words.proofs.filters.filter_of.Goals as goal

pub returns-in-Ok-try_get_matches_from-clause-ok : goal.returns-in-Ok-try_get_matches_from-clause-ok
returns-in-Ok-try_get_matches_from-clause-ok c =
    let words = map string_bytes c.args.words.now in
    let (command, is, named) = is_answered words _ _ c.in-Ok.ensures (length-map c.args.words.now string_bytes ∙ c.if-words-ne2.false)
    c.in-Ok-try_get_matches_from.ensures.matches c.in-Ok-try_get_matches_from.ensures.kinds in
    subst (λ (r : Result Filter Fault). IfOk r (IsCommand words)) (sym (c.asked.ensures.command command (c.subcommand_name.ensures ∙ named))) is

pub returns-in-Ok-try_get_matches_from-clause-memory : goal.returns-in-Ok-try_get_matches_from-clause-memory
returns-in-Ok-try_get_matches_from-clause-memory c =
    let words = map string_bytes c.args.words.now in
    let (command, is, named) = is_answered words _ _ c.in-Ok.ensures (length-map c.args.words.now string_bytes ∙ c.if-words-ne2.false)
    c.in-Ok-try_get_matches_from.ensures.matches c.in-Ok-try_get_matches_from.ensures.kinds in
    subst (λ (r : Result Filter Fault). IfErr r (λ f. (a : Filter) → IsCommand words a → f ≡ fault.Memory)) (sym (c.asked.ensures.command command (c.subcommand_name.ensures ∙ named))) tt

pub returns-in-Ok-try_get_matches_from-clause-other : goal.returns-in-Ok-try_get_matches_from-clause-other
returns-in-Ok-try_get_matches_from-clause-other c =
    let words = map string_bytes c.args.words.now in
    let (command, is, named) = is_answered words _ _ c.in-Ok.ensures (length-map c.args.words.now string_bytes ∙ c.if-words-ne2.false)
    c.in-Ok-try_get_matches_from.ensures.matches c.in-Ok-try_get_matches_from.ensures.kinds in
    subst (λ (r : Result Filter Fault). IfErr r (λ f. IsNoCommand words → f ≡ fault.Arguments)) (sym (c.asked.ensures.command command (c.subcommand_name.ensures ∙ named))) tt

pub returns-in-Err-clause-memory : goal.returns-in-Err-clause-memory
returns-in-Err-clause-memory c = λ command is. c.fault_of.ensures.memory
    (c.in-Err.ensures.passes (ap (λ (a : App). takes a (map string_bytes c.args.words.now)) c.in-Ok.ensures ∙ is_taken _ command is)) command is

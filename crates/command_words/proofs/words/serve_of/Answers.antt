use Rattle.std.proofs.Common.{◌≡◌, ◌∙◌, ap, sym, drop, map, string_bytes, true≢false}
use Rattle.std.specs.List.{list_any}
use Rattle.std.proofs.lemmas.List.{length-map}
use Rattle.clap.proofs.WalkLemmas.{list_any-map}
use Rattle.clap.specs.Simple.{app_of}
use Rattle.command_words.specs.Arguments.{is_end_of_options}
use Rattle.command_words.proofs.Options.{asks_for_nothing, asks_to_serve, finds_no_memory, nothing_asks}
use Rattle.command_words.proofs.words.serve_of.Goals as goal

pub returns-in_default-clause-memory : goal.returns-in_default-clause-memory
returns-in_default-clause-memory c = λ s asks.
    absurd (nothing_asks _ (length-map c.args.words.now string_bytes ∙ c.in_default.ensures.cases) s asks)

pub returns-then-ends_options-clause-memory : goal.returns-then-ends_options-clause-memory
returns-then-ends_options-clause-memory c = λ s asks.
    let behind = ap (λ ws. drop 1 (map string_bytes ws)) c.in-Some.ensures.cases.0 in
    let ends = sym (list_any-map is_end_of_options string_bytes c.in-Some.words.now) ∙ sym c.ends_options.ensures ∙ c.if-ends_options.true in
    absurd (true≢false (sym ends ∙ ap (list_any is_end_of_options) (sym behind) ∙ asks.options))

pub returns-in-Ok-try_get_matches_from-clause-ok : goal.returns-in-Ok-try_get_matches_from-clause-ok
returns-in-Ok-try_get_matches_from-clause-ok c =
    let rest = map string_bytes c.in-Some.words.now in
    let behind : rest ≡ drop 1 (map string_bytes c.args.words.now) = sym (ap (λ ws. drop 1 (map string_bytes ws)) c.in-Some.ensures.cases.0) in
    let none = sym (list_any-map is_end_of_options string_bytes c.in-Some.words.now) ∙ sym c.ends_options.ensures ∙ c.if-ends_options.false in
    asks_to_serve _ rest c.asked.result (app_of c.in-Ok.command) c.in-Ok-try_get_matches_from.matches behind c.in-Ok.ensures
    c.in-Ok-try_get_matches_from.ensures.matches c.in-Ok-try_get_matches_from.ensures.kinds none c.asked.ensures.range c.asked.ensures.found

pub returns-in-Ok-try_get_matches_from-clause-memory : goal.returns-in-Ok-try_get_matches_from-clause-memory
returns-in-Ok-try_get_matches_from-clause-memory c =
    let rest = map string_bytes c.in-Some.words.now in
    let behind : rest ≡ drop 1 (map string_bytes c.args.words.now) = sym (ap (λ ws. drop 1 (map string_bytes ws)) c.in-Some.ensures.cases.0) in
    asks_for_nothing _ rest c.asked.result (app_of c.in-Ok.command) c.in-Ok-try_get_matches_from.matches behind c.in-Ok.ensures
    c.in-Ok-try_get_matches_from.ensures.matches c.asked.ensures.other

pub returns-in-Err-clause-memory : goal.returns-in-Err-clause-memory
returns-in-Err-clause-memory c =
    let rest = map string_bytes c.in-Some.words.now in
    let behind : rest ≡ drop 1 (map string_bytes c.args.words.now) = sym (ap (λ ws. drop 1 (map string_bytes ws)) c.in-Some.ensures.cases.0) in
    finds_no_memory _ rest c.in-Err.error c.fault_of.result (app_of c.in-Ok.command) behind c.in-Ok.ensures
    c.in-Err.ensures.kinds c.fault_of.ensures.memory

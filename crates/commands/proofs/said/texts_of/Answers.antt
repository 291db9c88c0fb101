use Rattle.std.proofs.Common.{◌≡◌, ◌<◌, ◌+◌, List, ℕ, ◌++◌, drop, get_or, length, sym, ap, ◌∙◌, append_assoc}
use Rattle.std.proofs.lemmas.List.{at_drop_more}
use Rattle.json_gateway.specs.declared.wire.WireOutcome.{WireOutcome}
use Rattle.commands.specs.Said.{text_shown, texts_shown}
use Rattle.commands.proofs.said.texts_of.Goals as goal

-- one outcome more
more : (os : List WireOutcome) (i : ℕ) (d o : WireOutcome) (old next all : List (List ℕ)) → i < length os → o ≡ get_or os i d
    → next ≡ old ++ text_shown o → old ++ texts_shown (drop i os) ≡ all → next ++ texts_shown (drop (i + 1) os) ≡ all
more os i d o old next all within is grown held =
    ap (λ ts. ts ++ texts_shown (drop (i + 1) os)) grown ∙ append_assoc old (text_shown o) (texts_shown (drop (i + 1) os))
    ∙ ap (λ p. old ++ (text_shown p ++ texts_shown (drop (i + 1) os))) is
    ∙ ap (λ ts. old ++ ts) (sym (at_drop_more texts_shown os i d within)) ∙ held

pub loop-outcome-preserved : goal.loop-outcome-preserved
loop-outcome-preserved c =
    more _ _ _ _ _ _ _ c.loop-outcome-test.true c.outcome-item.is c.in_ok-add_text.ensures c.loop-outcome.invariant

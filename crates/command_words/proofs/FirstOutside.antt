-- The first option whose number is out of its range, by a word and those behind it.
use Rattle.std.proofs.Common.{◌≡◌, ◌∙◌, sym, ap, ℕ, List, ◌∷◌, Option, None, Some, Bool}
use Rattle.command_words.specs.Advice.{first_outside, or_else, outside}
use Rattle.command_words.specs.declared.advice.Advice.{Advice}

steps_on : (serves : Bool) (option word : List ℕ) (all rest : List (List ℕ)) (told : Option Advice) → all ≡ word ∷ rest → told ≡ outside serves option word
    → or_else told (first_outside serves word rest) ≡ first_outside serves option all
steps_on serves option word all rest told cut is = ap (λ found. or_else found (first_outside serves word rest)) is ∙ sym (ap (first_outside serves option) cut)

pub told_here : (serves : Bool) (option word : List ℕ) (all rest : List (List ℕ)) (told : Option Advice) (advice : Advice) → all ≡ word ∷ rest
    → told ≡ outside serves option word → told ≡ Some advice → Some advice ≡ first_outside serves option all
told_here serves option word all rest told advice cut is some =
    sym (ap (λ found. or_else found (first_outside serves word rest)) some) ∙ steps_on serves option word all rest told cut is

pub told_later : (serves : Bool) (option word : List ℕ) (all rest : List (List ℕ)) (told found : Option Advice) → all ≡ word ∷ rest
    → told ≡ outside serves option word → told ≡ None → found ≡ first_outside serves word rest → found ≡ first_outside serves option all
told_later serves option word all rest told found cut is none later =
    later ∙ sym (ap (λ here. or_else here (first_outside serves word rest)) none) ∙ steps_on serves option word all rest told cut is

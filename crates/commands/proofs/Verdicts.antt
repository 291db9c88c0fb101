-- What was written of a verdict, by what is known of the text.
use Rattle.std.proofs.Common.{◌≡◌, ℕ, List, Option, None, Some, IfSome, subst}
use Rattle.commands.specs.declared.judging.Verdict.{Verdict}
use Rattle.commands.specs.Judging.{IsVerdict, verdict_line}
use Rattle.commands.specs.Writes.{AppendsFront}

-- a front of the line of the verdict on the text that was read
pub front_of_verdict : (known before after : Option (List ℕ)) (text : List ℕ) (v : Verdict) → IfSome known (λ t. text ≡ t) → IsVerdict text v
    → AppendsFront before after (verdict_line v)
    → IfSome known (λ t. (x : Verdict) × IsVerdict t x × AppendsFront before after (verdict_line x))
front_of_verdict None before after text v same is p = tt
front_of_verdict (Some t) before after text v same is p = (v, subst (λ t. IsVerdict t v) same is, p)

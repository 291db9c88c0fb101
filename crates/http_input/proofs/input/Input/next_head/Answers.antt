use Rattle.std.proofs.Common.{Err, subst, sym, ◌∙◌}
use Rattle.std.proofs.lemmas.List.{nil_from_length}
use Rattle.http_reply.specs.Counts.{inner_of}
use Rattle.http_reply.specs.declared.front.Front.{Front}
use Rattle.http_input.specs.Parts.{HeadCame}
use Rattle.http_input.proofs.Taking.{ended}
use Rattle.http_input.proofs.Told.{cut_head, fault_came}
use Rattle.http_input.proofs.input.Input.next_head.Goals as goal

pub returns-in-Fault-clause-came : goal.returns-in-Fault-clause-came
returns-in-Fault-clause-came g c =
    subst (λ (f : Front). HeadCame (g.R.Read.remaining (inner_of c.heads.r)) c.seen.new.self (Err f)) (sym c.front_of.ensures)
    (fault_came (g.R.Read.remaining (inner_of c.heads.r)) c.seen.new.self c.in-Fault.fault c.in-Fault.ensures.sees)

pub returns-then-len-eq0-clause-came : goal.returns-then-len-eq0-clause-came
returns-then-len-eq0-clause-came g c = (
  nil_from_length c.fill.new.self (sym c.len.ensures ∙ c.if-len-eq0.true),
  (ended _ _ _ c.in-Ok-false.field-0 c.in-Ok-false.field-0-test c.in-Ok-false.ensures.filled).1,
)

pub returns-in-Ok-false-clause-came : goal.returns-in-Ok-false-clause-came
returns-in-Ok-false-clause-came g c =
    cut_head _ c.seen.new.self c.fill.new.self c.in-Ok-false.field-0 c.in-More.ensures.sees c.in-Ok-false.field-0-test
    c.in-Ok-false.ensures.filled
    (λ none. c.if-len-eq0.false (c.len.ensures ∙ none))

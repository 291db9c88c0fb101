use Rattle.std.proofs.Common.{◌∙◌, append_assoc}
use Rattle.kv_model.specs.Answers.{fault_text}
use Rattle.gateway_text.proofs.Objects.{on_ok, member_tokens}
use Rattle.gateway_text.proofs.refusals.write_refusal.Goals as goal

pub returns : goal.returns
unfolding fault_text
returns c status =
    on_ok c.end_object.result _ _
    (λ e. e ∙ rw (c.in_ok-string_member-2.ensures, c.in_ok-string_member.ensures, c.in_ok-code_member.ensures)
    (rw c.in_ok-begin_object.ensures (simp (append_assoc, member_tokens))))
    c.end_object.ensures

use Rattle.std.proofs.Common.{◌∙◌, append_assoc}
use Rattle.kv_model.specs.Answers.{header}
use Rattle.gateway_text.proofs.Objects.{on_ok, member_tokens}
use Rattle.gateway_text.proofs.header.whole_header.Goals as goal

pub returns : goal.returns
unfolding header
returns c =
    on_ok c.end_object.result _ _
    (λ e. e ∙ rw (c.in_ok-number_member-4.ensures, c.in_ok-number_member-3.ensures, c.in_ok-number_member-2.ensures)
    (rw (c.in_ok-number_member.ensures, c.in_ok-begin_object.ensures) (simp (append_assoc, member_tokens))))
    c.end_object.ensures

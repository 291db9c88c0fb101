use Rattle.std.proofs.Common.{◌∙◌, append_assoc}
use Rattle.kv_model.specs.Answers.{result_text}
use Rattle.gateway_text.proofs.Objects.{on_ok, member_tokens}
use Rattle.gateway_text.proofs.watches.write_message.Goals as goal

pub returns : goal.returns
unfolding result_text
returns c =
    on_ok c.end_object.result _ _
    (λ e. e ∙ rw (c.in_ok-member.ensures, c.in_ok-begin_object.ensures) (simp (append_assoc, member_tokens)))
    c.end_object.ensures

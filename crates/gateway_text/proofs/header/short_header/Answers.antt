use Rattle.std.proofs.Common.{◌∙◌, append_assoc}
use Rattle.kv_model.specs.Answers.{short_header}
use Rattle.gateway_text.proofs.Objects.{on_ok, member_tokens}
use Rattle.gateway_text.proofs.header.short_header.Goals as goal

pub returns : goal.returns
unfolding short_header
returns c =
    on_ok c.end_object.result _ _
    (λ e. e ∙ simp (c.in_ok-begin_object.ensures, c.in_ok-number_member.ensures, append_assoc, member_tokens))
    c.end_object.ensures

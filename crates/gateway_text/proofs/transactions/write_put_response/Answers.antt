use Rattle.std.proofs.Common.{◌∙◌, append_assoc}
use Rattle.kv_model.specs.Answers.{response}
use Rattle.gateway_text.proofs.Objects.{on_ok, member_tokens}
use Rattle.gateway_text.proofs.transactions.write_put_response.Goals as goal

pub returns : goal.returns
unfolding response
returns c =
    on_ok c.end_object.result _ _
    (λ e. e ∙ simp (c.in_ok-begin_object.ensures, c.in_ok-name.ensures, c.in_ok-write_put.ensures, append_assoc, member_tokens))
    c.end_object.ensures

use Rattle.std.proofs.Common.{◌∙◌, append_assoc}
use Rattle.kv_model.specs.Answers.{tombstone_text}
use Rattle.gateway_text.proofs.Objects.{on_ok, member_tokens}
use Rattle.gateway_text.proofs.watches.write_tombstone.Goals as goal

pub returns : goal.returns
unfolding tombstone_text
returns c =
    on_ok c.end_object.result _ _
    (λ e. e ∙ rw (c.in_ok-number_member.ensures, c.in_ok-bytes_member.ensures, c.in_ok-begin_object.ensures) (simp (append_assoc, member_tokens, c.as_slice.ensures)))
    c.end_object.ensures

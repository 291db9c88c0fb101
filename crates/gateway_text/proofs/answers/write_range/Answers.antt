use Rattle.std.proofs.Common.{◌∙◌, append_assoc}
use Rattle.kv_model.specs.Answers.{range_text}
use Rattle.gateway_text.proofs.Objects.{on_ok, member_tokens, map-map}
use Rattle.gateway_text.proofs.answers.write_range.Goals as goal

pub returns : goal.returns
unfolding range_text
returns c =
    on_ok c.end_object.result _ _
    (λ e. e ∙ rw (c.in_ok-truth_member.ensures, c.in_ok-list_member.ensures, c.in_ok-member.ensures)
    (rw (c.in_ok-number_member.ensures, c.in_ok-begin_object.ensures)
    (simp (append_assoc, member_tokens, map-map, c.deref.ensures.value))))
    c.end_object.ensures

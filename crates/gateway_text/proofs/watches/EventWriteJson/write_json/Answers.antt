use Rattle.std.proofs.Common.{◌∙◌, append_assoc}
use Rattle.kv_model.specs.Answers.{event_text}
use Rattle.gateway_text.proofs.Objects.{on_ok, member_tokens, option_map-option_map}
use Rattle.gateway_text.proofs.watches.EventWriteJson.write_json.Goals as goal

pub returns : goal.returns
unfolding event_text
returns c =
    on_ok c.end_object.result _ _
    (λ e. e ∙ rw (c.in_ok-write_type.ensures, c.in_ok-optional_member.ensures, c.in_ok-member.ensures, c.in_ok-begin_object.ensures)
    (simp (append_assoc, member_tokens, option_map-option_map)))
    c.end_object.ensures

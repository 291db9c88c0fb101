use Rattle.std.proofs.Common.{◌∙◌, append_assoc}
use Rattle.std.specs.Int.{w64}
use Rattle.std.proofs.Common.{rules}
use Rattle.std.proofs.lemmas.Int.{to_z-of_z}
use Rattle.kv_model.specs.Answers.{key_value_text}
use Rattle.gateway_text.proofs.Objects.{on_ok, member_tokens}
use Rattle.gateway_text.proofs.key_value.KvRefWriteJson.write_json.Goals as goal

pub returns : goal.returns
unfolding key_value_text
returns c =
    let lease = simp (to_z-of_z w64 c.args.self.now.lease (search rules)) at c.in_ok-signed_member.ensures in
    on_ok c.end_object.result _ _
    (λ e. e ∙ rw (c.in_ok-number_member-3.ensures, c.in_ok-bytes_member-2.ensures, c.in_ok-number_member-2.ensures, lease)
    (rw (c.in_ok-bytes_member.ensures, c.in_ok-number_member.ensures, c.in_ok-begin_object.ensures)
    (simp (append_assoc, member_tokens))))
    c.end_object.ensures

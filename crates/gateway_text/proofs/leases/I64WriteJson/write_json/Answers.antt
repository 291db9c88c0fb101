use Rattle.std.proofs.Common.{◌∙◌, append_assoc, rules}
use Rattle.std.specs.Prelude.{FitsSigned}
use Rattle.std.specs.Int.{w64}
use Rattle.std.proofs.lemmas.Int.{to_z-of_z}
use Rattle.kv_model.specs.Answers.{lease_text}
use Rattle.gateway_text.proofs.Objects.{on_ok, member_tokens}
use Rattle.gateway_text.proofs.leases.I64WriteJson.write_json.Goals as goal

pub returns : goal.returns
unfolding lease_text
returns c =
    let fits : FitsSigned w64 c.args.self.now = search rules in
    let id = rw (to_z-of_z w64 c.args.self.now fits) at c.in_ok-signed_member.ensures in
    on_ok c.end_object.result _ _
    (λ e. e ∙ rw (id, c.in_ok-begin_object.ensures) (simp (append_assoc, member_tokens)))
    c.end_object.ensures

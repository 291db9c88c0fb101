use Rattle.std.proofs.Common.{◌∙◌, append_assoc}
use Rattle.std.specs.Int.{w64}
use Rattle.std.proofs.lemmas.Int.{to_z-of_z}
use Rattle.gateway_text.specs.Views.{created_data}
use Rattle.gateway_text.proofs.Objects.{on_ok, member_tokens}
use Rattle.gateway_text.proofs.watches.write_created.Goals as goal

pub returns : goal.returns
unfolding created_data
returns c =
    let id = rw (to_z-of_z w64 c.args.id c.ranges.id) at c.in_ok-signed_member.ensures in
    on_ok c.end_object.result _ _
    (λ e. e ∙ rw (id, c.in_ok-member.ensures, c.in_ok-truth_member.ensures, c.in_ok-begin_object.ensures) (simp (append_assoc, member_tokens)))
    c.end_object.ensures

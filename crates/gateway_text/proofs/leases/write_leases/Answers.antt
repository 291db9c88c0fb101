use Rattle.std.proofs.Common.{◌∙◌, append_assoc}
use Rattle.gateway_text.specs.Views.{leases_data}
use Rattle.gateway_text.proofs.Objects.{on_ok, member_tokens}
use Rattle.gateway_text.proofs.leases.write_leases.Goals as goal

pub returns : goal.returns
unfolding leases_data
returns c =
    on_ok c.end_object.result _ _
    (λ e. e ∙ rw (c.in_ok-list_member.ensures, c.in_ok-member.ensures, c.in_ok-begin_object.ensures) (simp (append_assoc, member_tokens)))
    c.end_object.ensures

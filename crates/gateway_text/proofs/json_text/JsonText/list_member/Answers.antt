use Rattle.std.proofs.Common.{◌∙◌, sym, append_assoc}
use Rattle.gateway_text.proofs.Objects.{on_ok, list_tokens}
use Rattle.gateway_text.proofs.json_text.JsonText.list_member.Goals as goal

pub returns : goal.returns
returns g c =
    on_ok c.end_array.result _ _
    (λ e. e ∙ rw (c.in_ok-items.ensures, c.in_ok-begin_array.ensures, c.in_ok-name.ensures)
    (rw (list_tokens g.T.WriteJson.value c.args.name.now c.args.items.now (sym c.is_empty.ensures ∙ c.if-is_empty.false))
    (simp append_assoc)))
    c.end_array.ensures

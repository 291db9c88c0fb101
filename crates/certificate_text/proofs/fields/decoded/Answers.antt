use Rattle.std.proofs.Common.{arith}
use Rattle.certificate_text.proofs.Base64.{form_ok, form_fails}
use Rattle.certificate_text.proofs.fields.decoded.Goals as goal

pub returns-in_ok-from_vec-in-Ok : goal.returns-in_ok-from_vec-in-Ok
returns-in_ok-from_vec-in-Ok c =
    rw c.in_ok-from_vec-in-Ok.ensures.ok (form_ok c.args.symbols.now c.decode.result c.in-Ok.bytes
    (λ i. let fits = c.type_inv.symbols i in omega arith) c.decode.ensures.ok c.decode.ensures.bytes c.in-Ok.ensures)

pub returns-in-Err : goal.returns-in-Err
returns-in-Err c =
    form_fails c.args.symbols.now c.decode.result c.in-Err.unfit (λ i. let fits = c.type_inv.symbols i in omega arith) c.decode.ensures.err
    c.in-Err.ensures

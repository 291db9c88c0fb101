use Rattle.std.proofs.Common.{Ok, Err, Some}
use Rattle.http_input.proofs.Taking.{took_trans}
use Rattle.http_input.proofs.Told.{body_failed, head_failed, tells_of}
use Rattle.http_input.proofs.input.next_request.Goals as goal

pub returns-in-Ok-clause-tells : goal.returns-in-Ok-clause-tells
returns-in-Ok-clause-tells g c =
    tells_of _ _ _ _ (Ok (Some c.in-Ok-Some.head)) (took_trans _ _ _ _ _ _ c.next_head.ensures.took c.read_body.ensures.took)
    c.in-Ok.ensures.came

pub returns-in-Err-read_body-clause-came : goal.returns-in-Err-read_body-clause-came
returns-in-Err-read_body-clause-came g c = body_failed _ _ c.in-Ok-Some.head c.in-Err-read_body.front c.in-Err-read_body.ensures.came

pub returns-in-Err-read_body-clause-tells : goal.returns-in-Err-read_body-clause-tells
returns-in-Err-read_body-clause-tells g c =
    tells_of _ _ _ _ (Err c.in-Err-read_body.front) (took_trans _ _ _ _ _ _ c.next_head.ensures.took c.read_body.ensures.took)
    (body_failed _ _ c.in-Ok-Some.head c.in-Err-read_body.front c.in-Err-read_body.ensures.came)

pub returns-in-Err-clause-tells : goal.returns-in-Err-clause-tells
returns-in-Err-clause-tells g c =
    tells_of _ _ _ _ (Err c.in-Err.front) c.next_head.ensures.took (head_failed _ _ c.in-Err.front c.in-Err.ensures.came)

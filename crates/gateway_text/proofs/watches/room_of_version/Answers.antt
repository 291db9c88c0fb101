use Rattle.std.proofs.Common.{ap, arith}
use Rattle.kv_model.specs.Answers.{bytes_text}
use Rattle.gateway_text.specs.Rooms.{text_len}
use Rattle.gateway_text.proofs.Lengths.{tombstone-most, version-put, version-gone}
use Rattle.gateway_text.proofs.watches.room_of_version.Goals as goal

pub returns-in-Some-clause-least : goal.returns-in-Some-clause-least
returns-in-Some-clause-least c = omega (arith, version-put c.args.version.now c.in-Some.kv c.in-Some.ensures, c.room_of_kv.ensures.least)

pub returns-in-None-clause-least : goal.returns-in-None-clause-least
returns-in-None-clause-least c =
    let most = tombstone-most c.args.version.now.key c.args.version.now.rev.main c.digits.result c.digits.ensures.fits c.digits.ensures.least in
    omega (
      arith,
      version-gone c.args.version.now c.in-None.ensures,
      most,
      c.room_of_base64.ensures.least,
      ap (λ k. text_len (bytes_text k)) c.as_slice.ensures,
      c.saturating_add.ensures,
    )

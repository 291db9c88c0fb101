use Rattle.std.proofs.Common.{length, arith, rules}
use Rattle.std.specs.Prelude.{decimal}
use Rattle.gateway_text.proofs.ResponseLengths.{inner-most}
use Rattle.gateway_text.proofs.Responses.{response-Range, response-Put, response-Delete, response-Inner}
use Rattle.gateway_text.proofs.transactions.+room.Goals as goal

pub room_of_one-returns-in-Range-clause-least : goal.room_of_one-returns-in-Range-clause-least
room_of_one-returns-in-Range-clause-least t c = search (rules, response-Range)

pub room_of_one-returns-in-Put-clause-least : goal.room_of_one-returns-in-Put-clause-least
room_of_one-returns-in-Put-clause-least t c = search (rules, response-Put)

pub room_of_one-returns-in-Delete-clause-least : goal.room_of_one-returns-in-Delete-clause-least
room_of_one-returns-in-Delete-clause-least t c = search (rules, response-Delete)

pub room_of_one-returns-in-Inner-clause-least : goal.room_of_one-returns-in-Inner-clause-least
room_of_one-returns-in-Inner-clause-least t c = search (rules, response-Inner)

pub room_of_inner-returns-clause-least : goal.room_of_inner-returns-clause-least
room_of_inner-returns-clause-least t c =
    omega (
      arith,
      inner-most c.args.revision (length (decimal c.args.revision)) c.frame_of_inner.ensures.fits (omega arith) c.args.succeeded
          c.args.replies.now,
      c.room_of_all.ensures.least,
      c.frame_of_inner.ensures.least,
    )

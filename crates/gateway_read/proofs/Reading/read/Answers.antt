-- The path, then the body.
use Rattle.std.proofs.Common.{sym}
use Rattle.gateway_read.proofs.Readings.{request_of-no_path, request_of-call_read, not-unknown, not-known}
use Rattle.gateway_read.proofs.Reading.read.Goals as goal

pub returns-in_default-clause-gives : goal.returns-in_default-clause-gives
returns-in_default-clause-gives c = request_of-no_path c.args.path.now c.args.body.now (sym c.in_default.ensures)

pub returns-in_default-clause-too_long : goal.returns-in_default-clause-too_long
returns-in_default-clause-too_long c = λ known long. absurd (not-known c.args.path.now (sym c.in_default.ensures) known)

pub returns-clause-gives : goal.returns-clause-gives
returns-clause-gives c = rw (request_of-call_read c.args.path.now c.args.body.now _ (sym c.in-Some.ensures)) c.command_of-command.ensures.gives

pub returns-clause-no_path : goal.returns-clause-no_path
returns-clause-no_path c = λ none. absurd (not-unknown c.args.path.now c.in-Some.request (sym c.in-Some.ensures) none)

pub returns-clause-too_long : goal.returns-clause-too_long
returns-clause-too_long c = λ known long. c.command_of-command.ensures.too_long long

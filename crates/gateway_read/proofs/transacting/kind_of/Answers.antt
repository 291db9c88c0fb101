use Rattle.std.proofs.Common.{rules}
use Rattle.gateway_read.specs.Fields.{snake_of}
use Rattle.gateway_read.specs.Transactions.{kind_read}
use Rattle.gateway_read.proofs.transacting.kind_of.Goals as goal

pub returns-in_err-object : goal.returns-in_err-object
unfolding kind_read
returns-in_err-object c = search rules

pub returns : goal.returns
unfolding kind_read snake_of
returns c = rw (c.in_ok-object.ensures, ← c.given-range.ensures, ← c.given-put.ensures, ← c.given-delete.ensures, ← c.given-inner.ensures)
    c.only_kind.ensures

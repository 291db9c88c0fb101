-- A list with less than two revisions is told by its first.
use Rattle.std.proofs.Common.{arith}
use Rattle.key_index.proofs.KeyRevisions.{few-one, few-none}
use Rattle.key_index.proofs.revisions.Held.few_of.Goals as goal

pub returns-in-Some : goal.returns-in-Some
returns-in-Some c =
    let same = c.len.ensures in
    let long = c.args.revisions.now.ok.0 in
    let few = c.if-len-ge2.false in
    (tt, few-one c.args.revisions.now.items _ c.in-Some.ensures.value (omega arith))

pub returns-in-None : goal.returns-in-None
returns-in-None c = (tt, few-none c.args.revisions.now.items c.in-None.ensures.value)

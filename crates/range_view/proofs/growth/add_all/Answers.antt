-- What was added so far stands behind what was kept, and goes again where the next one finds no memory.
use Rattle.std.proofs.Common.{◌∙◌, ◌+◌, take, drop, ap}
use Rattle.std.proofs.lemmas.List.{take-append-drop}
use Rattle.version_table.specs.Rising.{retracted}
use Rattle.version_table.proofs.Changes.{retracted-append}
use Rattle.version_table.proofs.Retracting.{below-not_of}
use Rattle.range_view.specs.Stored.{AreOf}
use Rattle.range_view.proofs.Growing.{ready, front-of, split_at, upto-below}
use Rattle.range_view.proofs.growth.add_all.Goals as goal

pub add-requires-clause-behind : goal.add-requires-clause-behind
add-requires-clause-behind c =
    let at = c.loop-version in
    let us = c.args.versions.now in
    let i = at.version-index in
    rw at.invariant.table (ready c.args.table.now us (take i us) (drop (i + 1) us) c.version-item.result c.requires.rising
    (split_at us i c.version-item.result c.loop-version-test.true c.version-item.is))

pub take_back-requires-clause-upto : goal.take_back-requires-clause-upto
take_back-requires-clause-upto c =
    let at = c.loop-version in
    let main = c.args.main in
    let us = c.args.versions.now in
    let i = at.version-index in
    let newest : AreOf main (take i us) = front-of main us (take i us) (drop i us) c.requires.newest (take-append-drop i us) in
    rw (c.in-Err.ensures.err, at.invariant.table) (upto-below main c.args.table.now (take i us) c.requires.older newest)

pub returns-in-Err-clause-err : goal.returns-in-Err-clause-err
returns-in-Err-clause-err c =
    let at = c.loop-version in
    let main = c.args.main in
    let us = c.args.versions.now in
    let i = at.version-index in
    let newest : AreOf main (take i us) = front-of main us (take i us) (drop i us) c.requires.newest (take-append-drop i us) in
    c.take_back.ensures.table ∙ ap (retracted main) (c.in-Err.ensures.err ∙ at.invariant.table)
    ∙ retracted-append main c.args.table.now (take i us) (below-not_of main c.args.table.now c.requires.older) newest

-- What stands between the oldest two goes by the second, and behind those that are not after the place stands the first that is.
use Rattle.std.proofs.Common.{sym, ◌∙◌, ap}
use Rattle.std.specs.List.{slice_get}
use Rattle.key_index.proofs.KeyRevisions.{find-after, second_after-first}
use Rattle.key_index.proofs.revisions.after.Goals as goal

pub returns-in-Some : goal.returns-in-Some
returns-in-Some c =
    second_after-first c.args.place c.args.revisions.now.items c.in-Some.second c.in-Some.ensures

pub returns-in-None : goal.returns-in-None
returns-in-None c =
    c.rev_at.ensures.value ∙ ap (slice_get c.args.revisions.now.items) c.count_up_to.ensures
    ∙ sym (find-after c.args.place c.args.revisions.now.items)

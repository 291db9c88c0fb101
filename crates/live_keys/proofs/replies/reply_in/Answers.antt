-- A part of the list is what is live in the range of a Range.
use Rattle.live_keys.proofs.Within.{told-reply}
use Rattle.live_keys.proofs.replies.reply_in.Goals as goal

pub returns-clause-reply : goal.returns-clause-reply
returns-clause-reply c =
    told-reply c.args.query.now c.args.view.now c.args.listed.now c.part_of-part.result c.deref.result.now c.deref-2.result.now
    c.revision-revision.result c.revision-revision.ensures c.deref.ensures.value c.deref-2.ensures.value c.requires
    c.part_of-part.ensures.exact c.reply_of_part.result c.reply_of_part.ensures

pub returns-then-is_ranked-clause-reply : goal.returns-then-is_ranked-clause-reply
returns-then-is_ranked-clause-reply c =
    told-reply c.args.query.now c.args.view.now c.args.listed.now c.part_of-part.result c.deref.result.now c.deref-then-is_ranked.result.now
    c.revision-revision.result c.revision-revision.ensures c.deref.ensures.value c.deref-then-is_ranked.ensures.value c.requires
    c.part_of-part.ensures.exact c.by_rankings.result (λ up. c.by_rankings.ensures.reply)

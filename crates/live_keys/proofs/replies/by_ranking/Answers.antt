-- The first that the ranking shows are the first of what passes of the part, sorted.
use Rattle.std.proofs.Common.{◌≡◌, ◌∙◌, List, ap, length, map, sym}
use Rattle.kv_model.specs.History.{KeyValue}
use Rattle.kv_model.specs.Ranges.{reply_from, sorted_by}
use Rattle.range_view.specs.Replies.{kv_view}
use Rattle.live_keys.specs.Orders.{placed_from}
use Rattle.live_keys.specs.Parts.{of_part}
use Rattle.live_keys.specs.Ranked.{ranked_cmp}
use Rattle.shown_ranges.specs.Shown.{beyond, hits_of, reply_of}
use Rattle.shown_ranges.proofs.Gathering.{beyond-again, told-shown}
use Rattle.live_keys.proofs.Neighbours.{between-map}
use Rattle.live_keys.proofs.Rankings.{length-seen, ranked-shown}
use Rattle.live_keys.proofs.replies.by_ranking.Goals as goal

pub returns : goal.returns
returns c = λ over within h.
    let q = c.args.query.now in
    let p = c.args.part in
    let seen : List KeyValue = map kv_view (of_part p over) in
    let placed : c.deref.result.now ≡ sorted_by (ranked_cmp q.order q.target) (placed_from 0 over)
    = c.deref.ensures.value ∙ h ∙ (λ i. sorted_by (ranked_cmp (c.requires.order i) (c.requires.target i)) (placed_from 0 over)) in
    let shown : map kv_view c.in_ok-shown.shown.items ≡ beyond q.limit (hits_of q seen)
    = ranked-shown q p over c.in_ok-shown.shown.items c.deref.result.now placed c.in_ok-shown.ensures in
    let count : c.len.result ≡ length seen = c.len.ensures ∙ length-seen p over within in
    c.finish.ensures (hits_of q seen) (ap (beyond q.limit) shown ∙ beyond-again q.limit (hits_of q seen))
    ∙ (λ i. reply_of q (count i) c.args.revision (hits_of q seen))
    ∙ told-shown q c.args.revision seen c.requires.more
    ∙ ap (reply_from q c.args.revision) (sym (between-map kv_view p.from p.to over))

-- The keys are counted, and what passes is shown.
use Rattle.std.proofs.Common.{◌∙◌, [], false, map, sym}
use Rattle.range_view.specs.Replies.{kv_view}
use Rattle.shown_ranges.specs.Shown.{hits_of, reply_of}
use Rattle.shown_ranges.proofs.Gathering.{told-counted, told-shown}
use Rattle.shown_ranges.proofs.Gathering.{map-length}
use Rattle.shown_ranges.proofs.shown.reply_by.Goals as goal

pub returns-then-query : goal.returns-then-query
returns-then-query c = λ up.
    c.counted.ensures
    ∙ (λ i. record { kvs = []; count = sym (map-length kv_view c.args.kvs.now) i; more = false; revision = c.args.revision })
    ∙ told-counted c.args.query.now c.args.revision (map kv_view c.args.kvs.now) c.if-query.true

pub returns : goal.returns
returns c = λ up.
    let q = c.args.query.now in
    c.finish.ensures (hits_of q (map kv_view c.args.kvs.now)) (c.in_ok-shown.ensures up)
    ∙ (λ i. reply_of q (sym (map-length kv_view c.args.kvs.now) i) c.args.revision (hits_of q (map kv_view c.args.kvs.now)))
    ∙ told-shown q c.args.revision (map kv_view c.args.kvs.now) c.if-query.false

-- Each operation is answered as its path is, and so is a row of them.
use Rattle.std.proofs.Common.{◌≡◌, ◌+◌, ◌<◌, ◌^◌, sym, ◌∙◌, ap, subst, map, drop, arith, rules}
use Rattle.txn_core.specs.declared.step.Step.{the_lemmas}
use Rattle.kv_model.specs.Ranges.{range_reply}
use Rattle.kv_model.specs.Txns.{Path, replies_of, changes_of}
use Rattle.store_laws.specs.Plans.{ReadsKept}
use Rattle.range_view.specs.Replies.{in_row, op_reply_view}
use Rattle.range_view.specs.Stored.{Viewed}
use Rattle.txn_core.specs.Steps.{step_view, steps_view}
use Rattle.txn_core.proofs.Elements.{At}
use Rattle.txn_core.proofs.Answering.{row-at, row-end, row-reads, row-changes, row-room, row-pushed}
use Rattle.txn_core.proofs.Answering.{path-range, path-put, path-delete, path-inner}
use Rattle.txn_core.proofs.Answering.{range-changes, put-changes, delete-changes, inner-changes}
use Rattle.txn_core.proofs.Answering.{told, range-told, put-told, delete-told, inner-told}
use Rattle.txn_core.proofs.reply.+reply.Goals as goal

-- ---- a row

pub row_replies-step_reply-requires : goal.row_replies-step_reply-requires
row_replies-step_reply-requires t c =
    let l = c.loop-step in
    let ss = c.args.steps.now in
    let here : At ss = record { index = l.step-index; value = c.step-item.result; inside = omega arith; is = c.step-item.is } in
    let room = subst (λ n. n < 2 ^ 64) (sym l.invariant.changes) c.requires.changes in (
      search (rules, the_lemmas),
      (
        c.requires.room,
        (
          (row-reads c.args.tables.now.compacted c.args.before ss here l.invariant.reads).0,
          (row-room c.args.tables.now.versions (c.args.before + 1) l.next ss here _ room, l.invariant.known),
        ),
      ),
    )

pub row_replies-loop-step-preserved : goal.row_replies-loop-step-preserved
row_replies-loop-step-preserved t c =
    let l = c.loop-step in
    let v = c.args.tables.now in
    let n = c.args.before in
    let ss = c.args.steps.now in
    let reply = c.in_ok-reply in
    let here : At ss = record { index = l.step-index; value = c.step-item.result; inside = omega arith; is = c.step-item.is } in
    let rest = steps_view (drop (l.step-index + 1) ss) in
    record {
      reads = (row-reads v.compacted n ss here l.invariant.reads).1;
      changes = row-changes v.versions (n + 1) l.next reply.after ss here reply.ensures.next ∙ l.invariant.changes;
      replies = ap (λ rs. in_row (map op_reply_view rs) (told v n reply.after rest)) c.in_ok-push.ensures.items
          ∙ row-pushed l.replies.items reply.reply (told v n reply.after rest)
          ∙ ap (in_row (map op_reply_view l.replies.items)) (reply.ensures.replies rest ∙ ap (told v n l.next) (sym (row-at ss here)))
          ∙ l.invariant.replies;
      known = reply.ensures.known;
    }

pub row_replies-returns-clause-replies : goal.row_replies-returns-clause-replies
unfolding replies_of
row_replies-returns-clause-replies t c =
    let l = c.loop-step in
    ap (λ q. in_row (map op_reply_view l.replies.items) (told c.args.tables.now c.args.before l.next q))
    (sym (row-end c.args.steps.now l.step-index c.loop-step-test.false)) ∙ l.invariant.replies

pub row_replies-returns-clause-next : goal.row_replies-returns-clause-next
unfolding changes_of
row_replies-returns-clause-next t c =
    let l = c.loop-step in
    let none : l.next ≡ l.next + 0 = omega arith in
    none ∙ ap (λ q. l.next + changes_of c.args.tables.now.versions (c.args.before + 1) l.next q)
    (sym (row-end c.args.steps.now l.step-index c.loop-step-test.false)) ∙ l.invariant.changes

-- ---- a Range

pub step_reply-returns-in_ok-range_reply-in-Range-clause-replies : goal.step_reply-returns-in_ok-range_reply-in-Range-clause-replies
step_reply-returns-in_ok-range_reply-in-Range-clause-replies t c = λ rest.
    let v = c.args.tables.now in
    let reply = c.in_ok-range_reply-in-Range in
    let q = c.in-Range.query.now in
    range-told v c.args.before c.args.sub q reply.field-0
    (reply.ensures.reply ∙ ap (λ (w : Viewed). range_reply w.versions w.revision w.place q) c.requires.known.keys) rest
    ∙ ap (told v c.args.before c.args.sub) (sym (path-range c.args.step.now c.in-Range.query c.in-Range.is rest))

pub step_reply-returns-in_ok-range_reply-in-Range-clause-next : goal.step_reply-returns-in_ok-range_reply-in-Range-clause-next
step_reply-returns-in_ok-range_reply-in-Range-clause-next t c =
    let vs = c.args.tables.now.versions in
    let main = c.args.before + 1 in
    range-changes vs main c.args.sub c.in-Range.query.now
    ∙ ap (λ q. c.args.sub + changes_of vs main c.args.sub q) (sym (path-range c.args.step.now c.in-Range.query c.in-Range.is Path.end))

-- ---- a put

pub step_reply-pass_put-requires-clause-next : goal.step_reply-pass_put-requires-clause-next
step_reply-pass_put-requires-clause-next t c =
    let vs = c.args.tables.now.versions in
    let main = c.args.before + 1 in
    let path = path-put c.args.step.now c.in-Put.put c.in-Put.is Path.end in
    let one : c.args.sub + 1 ≡ c.args.sub + changes_of vs main c.args.sub (step_view c.args.step.now Path.end)
    = put-changes vs main c.args.sub c.in-Put.put.now ∙ ap (λ q. c.args.sub + changes_of vs main c.args.sub q) (sym path) in
    omega (arith, one, c.requires.changes)

pub step_reply-overflow_add-result : goal.step_reply-overflow_add-result
step_reply-overflow_add-result t c =
    let vs = c.args.tables.now.versions in
    let main = c.args.before + 1 in
    let path = path-put c.args.step.now c.in-Put.put c.in-Put.is Path.end in
    let one : c.args.sub + 1 ≡ c.args.sub + changes_of vs main c.args.sub (step_view c.args.step.now Path.end)
    = put-changes vs main c.args.sub c.in-Put.put.now ∙ ap (λ q. c.args.sub + changes_of vs main c.args.sub q) (sym path) in
    let room : c.args.sub + 1 < 2 ^ 64 = omega (arith, one, c.requires.changes) in
    search (rules, room)

pub step_reply-returns-in_ok-pass_put-in-Put-clause-replies : goal.step_reply-returns-in_ok-pass_put-in-Put-clause-replies
step_reply-returns-in_ok-pass_put-in-Put-clause-replies t c = λ rest.
    let v = c.args.tables.now in
    put-told v c.args.before c.args.sub c.in-Put.put.now c.previous-previous.result c.previous-previous.ensures rest
    ∙ ap (told v c.args.before c.args.sub) (sym (path-put c.args.step.now c.in-Put.put c.in-Put.is rest))

pub step_reply-returns-in_ok-pass_put-in-Put-clause-next : goal.step_reply-returns-in_ok-pass_put-in-Put-clause-next
step_reply-returns-in_ok-pass_put-in-Put-clause-next t c =
    let vs = c.args.tables.now.versions in
    let main = c.args.before + 1 in
    put-changes vs main c.args.sub c.in-Put.put.now
    ∙ ap (λ q. c.args.sub + changes_of vs main c.args.sub q) (sym (path-put c.args.step.now c.in-Put.put c.in-Put.is Path.end))

-- ---- a delete

pub step_reply-overflow_add-next : goal.step_reply-overflow_add-next
step_reply-overflow_add-next t c =
    let vs = c.args.tables.now.versions in
    let main = c.args.before + 1 in
    let deleted = c.in_ok-deleted-in-Delete.deleted in
    let path = path-delete c.args.step.now c.in-Delete.delete c.in-Delete.is Path.end in
    let more : c.args.sub + deleted ≡ c.args.sub + changes_of vs main c.args.sub (step_view c.args.step.now Path.end)
    = ap (λ k. c.args.sub + k) c.in_ok-deleted-in-Delete.ensures.count ∙ delete-changes vs main c.args.sub c.in-Delete.delete.now
    ∙ ap (λ q. c.args.sub + changes_of vs main c.args.sub q) (sym path) in
    let room : c.args.sub + deleted < 2 ^ 64 = omega (arith, more, c.requires.changes) in
    search (rules, room)

pub step_reply-returns-in_ok-pass-in-Delete-clause-replies : goal.step_reply-returns-in_ok-pass-in-Delete-clause-replies
step_reply-returns-in_ok-pass-in-Delete-clause-replies t c = λ rest.
    let v = c.args.tables.now in
    let d = c.in_ok-deleted-in-Delete in
    delete-told v c.args.before c.args.sub d.deleted c.in-Delete.delete.now d.previous d.ensures.count d.ensures.previous rest
    ∙ ap (told v c.args.before c.args.sub) (sym (path-delete c.args.step.now c.in-Delete.delete c.in-Delete.is rest))

pub step_reply-returns-in_ok-pass-in-Delete-clause-next : goal.step_reply-returns-in_ok-pass-in-Delete-clause-next
step_reply-returns-in_ok-pass-in-Delete-clause-next t c =
    let vs = c.args.tables.now.versions in
    let main = c.args.before + 1 in
    let path = path-delete c.args.step.now c.in-Delete.delete c.in-Delete.is Path.end in
    ap (λ k. c.args.sub + k) c.in_ok-deleted-in-Delete.ensures.count ∙ delete-changes vs main c.args.sub c.in-Delete.delete.now
    ∙ ap (λ q. c.args.sub + changes_of vs main c.args.sub q) (sym path)

-- ---- a transaction within

pub step_reply-row_replies-requires : goal.step_reply-row_replies-requires
step_reply-row_replies-requires t c =
    let vs = c.args.tables.now.versions in
    let main = c.args.before + 1 in
    let inner = steps_view c.deref.result.now in
    let path
    = path-inner c.args.step.now c.in-Inner.succeeded c.in-Inner.steps c.deref.result.now c.in-Inner.is c.deref.ensures.value Path.end in
    let same = inner-changes vs main c.args.sub c.in-Inner.succeeded inner
    ∙ ap (λ q. c.args.sub + changes_of vs main c.args.sub q) (sym path) in (
      search (rules, the_lemmas),
      (
        c.requires.room,
        (
          (subst (ReadsKept c.args.tables.now.compacted c.args.before) path c.requires.reads).0,
          (omega (arith, same, c.requires.changes), c.requires.known),
        ),
      ),
    )

pub step_reply-returns-in_ok-replies-in-Inner-clause-replies : goal.step_reply-returns-in_ok-replies-in-Inner-clause-replies
step_reply-returns-in_ok-replies-in-Inner-clause-replies t c = λ rest.
    let v = c.args.tables.now in
    let w = c.in_ok-replies-in-Inner in
    let b = c.in-Inner.succeeded in
    let ss = c.deref.result.now in
    inner-told v c.args.before c.args.sub w.next b (steps_view ss) w.replies w.ensures.replies w.ensures.next rest
    ∙ ap (told v c.args.before c.args.sub) (sym (path-inner c.args.step.now b c.in-Inner.steps ss c.in-Inner.is c.deref.ensures.value rest))

pub step_reply-returns-in_ok-replies-in-Inner-clause-next : goal.step_reply-returns-in_ok-replies-in-Inner-clause-next
step_reply-returns-in_ok-replies-in-Inner-clause-next t c =
    let vs = c.args.tables.now.versions in
    let main = c.args.before + 1 in
    let b = c.in-Inner.succeeded in
    let ss = c.deref.result.now in
    let path = path-inner c.args.step.now b c.in-Inner.steps ss c.in-Inner.is c.deref.ensures.value Path.end in
    c.in_ok-replies-in-Inner.ensures.next ∙ inner-changes vs main c.args.sub b (steps_view ss)
    ∙ ap (λ q. c.args.sub + changes_of vs main c.args.sub q) (sym path)

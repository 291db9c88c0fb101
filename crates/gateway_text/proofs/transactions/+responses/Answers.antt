use Rattle.std.proofs.Common.{sym, ◌∙◌, append_assoc, rules}
use Rattle.kv_model.specs.Answers.{txn_text, response}
use Rattle.gateway_text.specs.Views.{response_of}
use Rattle.gateway_text.proofs.Objects.{on_ok, member_tokens, list_tokens}
use Rattle.gateway_text.proofs.Responses.{each, response-Range, response-Put, response-Delete, response-Inner}
use Rattle.gateway_text.proofs.transactions.+responses.Goals as goal

pub write_txn-returns : goal.write_txn-returns
unfolding txn_text
write_txn-returns t c =
    on_ok c.end_object.result _ _
    (λ e. e ∙ rw (c.in_ok-truth_member.ensures, c.in_ok-write_responses.ensures, c.in_ok-member.ensures)
    (rw c.in_ok-begin_object.ensures (simp (append_assoc, member_tokens, each))))
    c.end_object.ensures

pub write_responses-returns : goal.write_responses-returns
write_responses-returns t c =
    on_ok c.end_array.result _ _
    (λ e. e ∙ rw (c.in_ok-write_items.ensures, c.in_ok-begin_array.ensures, c.in_ok-name.ensures)
    (rw (list_tokens (response_of c.args.revision) _ c.args.replies.now (sym c.is_empty.ensures ∙ c.if-is_empty.false))
    (simp append_assoc)))
    c.end_array.ensures

pub write_txn_response-returns : goal.write_txn_response-returns
unfolding response
write_txn_response-returns t c =
    on_ok c.end_object.result _ _
    (λ e. e ∙ simp (c.in_ok-begin_object.ensures, c.in_ok-name.ensures, c.in_ok-write_txn.ensures, append_assoc, member_tokens))
    c.end_object.ensures

pub write_response-returns-in-Range : goal.write_response-returns-in-Range
write_response-returns-in-Range t c = search (rules, response-Range)

pub write_response-returns-in-Put : goal.write_response-returns-in-Put
write_response-returns-in-Put t c = search (rules, response-Put)

pub write_response-returns-in-Delete : goal.write_response-returns-in-Delete
write_response-returns-in-Delete t c = search (rules, response-Delete)

pub write_response-returns-in-Inner : goal.write_response-returns-in-Inner
write_response-returns-in-Inner t c = search (rules, response-Inner)

-- What the operations of a transaction are answered, one after another.
use Rattle.std.proofs.Common.{◌≡◌, ℕ, List, [], ◌∷◌, map, Bool, Option, Vec, Global, refl, sym, ◌∙◌, ap, subst, rules}
use Rattle.std.specs.Prelude.{codes, option_map}
use Rattle.kv_model.specs.Answers.{short_header, range_text, put_text, delete_text, txn_text, response, responses}
use Rattle.kv_model.specs.Txns.{Replies}
use Rattle.range_view.specs.declared.reply.KvRef.{KvRef}
use Rattle.range_view.specs.declared.reply.RangeReply.{RangeReply}
use Rattle.range_view.specs.declared.reply.OpReply.{OpReply, fold-roll-OpReply, out-OpReply, roll-OpReply, roll-out-OpReply, the_lemmas}
use Rattle.range_view.specs.declared.reply.OpReply.TheVariants.{Range, Put, Delete, Inner}
use Rattle.range_view.specs.declared.reply.OpReply.TheOpen.{OpReply-F}
use Rattle.range_view.specs.Replies.{kv_view, reply_view, op_reply_step, op_reply_view, replies_view}
use Rattle.gateway_text.specs.Views.{first, response_of}

one-rolled : (r : ℕ) (x : OpReply-F OpReply) (rest : Replies)
    → responses r (op_reply_view (roll-OpReply x) rest) ≡ response_of r (roll-OpReply x) ∷ responses r rest
unfolding response_of responses
one-rolled r (OpReply-F.Range q) rest =
    let rolled = fold-roll-OpReply (Replies → Replies) op_reply_step (OpReply-F.Range q) in
    ap (λ f. responses r (f rest)) rolled ∙ ap (λ f. first (responses r (f Replies.no_replies)) ∷ responses r rest) (sym rolled)
one-rolled r (OpReply-F.Put held) rest =
    let rolled = fold-roll-OpReply (Replies → Replies) op_reply_step (OpReply-F.Put held) in
    ap (λ f. responses r (f rest)) rolled ∙ ap (λ f. first (responses r (f Replies.no_replies)) ∷ responses r rest) (sym rolled)
one-rolled r (OpReply-F.Delete deleted previous) rest =
    let rolled = fold-roll-OpReply (Replies → Replies) op_reply_step (OpReply-F.Delete deleted previous) in
    ap (λ f. responses r (f rest)) rolled ∙ ap (λ f. first (responses r (f Replies.no_replies)) ∷ responses r rest) (sym rolled)
one-rolled r (OpReply-F.Inner succeeded replies) rest =
    let rolled = fold-roll-OpReply (Replies → Replies) op_reply_step (OpReply-F.Inner succeeded replies) in
    ap (λ f. responses r (f rest)) rolled ∙ ap (λ f. first (responses r (f Replies.no_replies)) ∷ responses r rest) (sym rolled)

-- an operation's answer stands before those behind it
one : (r : ℕ) (o : OpReply) (rest : Replies) → responses r (op_reply_view o rest) ≡ response_of r o ∷ responses r rest
one r o rest = subst (λ (p : OpReply). responses r (op_reply_view p rest) ≡ response_of r p ∷ responses r rest) (roll-out-OpReply o)
    (one-rolled r (out-OpReply o) rest)

-- the responses are one of each answer
pub each : (r : ℕ) (os : List OpReply) → responses r (replies_view os) ≡ map (response_of r) os
unfolding responses
each r [] = refl
each r (o ∷ os) = one r o (replies_view os) ∙ ap (λ ds. response_of r o ∷ ds) (each r os)

-- ---- the response of an operation of each kind

op_reply_view-Range : (q : RangeReply) (rest : Replies) → op_reply_view (Range q) rest ≡ Replies.range (reply_view q) rest
op_reply_view-Range q rest = search (rules, the_lemmas)

op_reply_view-Put : (held : Option KvRef) (rest : Replies) → op_reply_view (Put held) rest ≡ Replies.put (option_map kv_view held) rest
op_reply_view-Put held rest = search (rules, the_lemmas)

op_reply_view-Delete : (deleted : ℕ) (previous : Vec KvRef Global) (rest : Replies)
    → op_reply_view (Delete deleted previous) rest ≡ Replies.delete deleted (map kv_view previous.items) rest
op_reply_view-Delete deleted previous rest = search (rules, the_lemmas)

op_reply_view-Inner : (succeeded : Bool) (replies : Vec OpReply Global) (rest : Replies)
    → op_reply_view (Inner succeeded replies) rest ≡ Replies.txn succeeded (replies_view replies.items) rest
op_reply_view-Inner succeeded replies rest = search (rules, the_lemmas)

pub response-Range : (r : ℕ) (q : RangeReply)
    → response_of r (Range q) ≡ response (codes "response_range") (range_text (short_header r) (reply_view q))
unfolding response_of responses
response-Range r q = ap (λ (rs : Replies). first (responses r rs)) (op_reply_view-Range q Replies.no_replies)

pub response-Put : (r : ℕ) (held : Option KvRef)
    → response_of r (Put held) ≡ response (codes "response_put") (put_text (short_header r) (option_map kv_view held))
unfolding response_of responses
response-Put r held = ap (λ (rs : Replies). first (responses r rs)) (op_reply_view-Put held Replies.no_replies)

pub response-Delete : (r : ℕ) (deleted : ℕ) (previous : Vec KvRef Global)
    → response_of r (Delete deleted previous) ≡ response (codes "response_delete_range")
    (delete_text (short_header r) deleted (map kv_view previous.items))
unfolding response_of responses
response-Delete r deleted previous =
    ap (λ (rs : Replies). first (responses r rs)) (op_reply_view-Delete deleted previous Replies.no_replies)

pub response-Inner : (r : ℕ) (succeeded : Bool) (replies : Vec OpReply Global)
    → response_of r (Inner succeeded replies) ≡ response (codes "response_txn")
    (txn_text (short_header r) succeeded (responses r (replies_view replies.items)))
unfolding response_of responses
response-Inner r succeeded replies =
    ap (λ (rs : Replies). first (responses r rs)) (op_reply_view-Inner succeeded replies Replies.no_replies)

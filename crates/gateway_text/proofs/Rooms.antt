-- The most room that an answer to an operation takes, by its kind.
use Rattle.std.proofs.Common.{◌≡◌, ◌≤◌, ◌+◌, ℕ, map, Bool, Option, Vec, Global, sym, subst, rules}
use Rattle.std.specs.Prelude.{option_map}
use Rattle.range_view.specs.declared.reply.KvRef.{KvRef}
use Rattle.range_view.specs.declared.reply.RangeReply.{RangeReply}
use Rattle.range_view.specs.declared.reply.OpReply.{OpReply, the_lemmas}
use Rattle.range_view.specs.declared.reply.OpReply.TheVariants.{Range, Put, Delete, Inner}
use Rattle.range_view.specs.Replies.{kv_view}
use Rattle.gateway_text.specs.Rooms.{total, most_or, most_of_kvs, most_of_reply}

pub most_of_reply-Range : (r : RangeReply) → most_of_reply (Range r) ≡ 142 + most_of_kvs r.kvs.items
most_of_reply-Range r = search (rules, the_lemmas)

pub most_of_reply-Put : (held : Option KvRef) → most_of_reply (Put held) ≡ 142 + most_or 0 (option_map kv_view held)
most_of_reply-Put held = search (rules, the_lemmas)

pub most_of_reply-Delete : (deleted : ℕ) (previous : Vec KvRef Global)
    → most_of_reply (Delete deleted previous) ≡ 142 + most_of_kvs previous.items
most_of_reply-Delete deleted previous = search (rules, the_lemmas)

pub most_of_reply-Inner : (succeeded : Bool) (replies : Vec OpReply Global)
    → most_of_reply (Inner succeeded replies) ≡ 142 + total (map most_of_reply replies.items)
most_of_reply-Inner succeeded replies = search (rules, the_lemmas)

-- ---- as bounds

pub fits-Range : (r : RangeReply) (n : ℕ) → n ≤ 142 + most_of_kvs r.kvs.items → n ≤ most_of_reply (Range r)
fits-Range r n h = subst (λ m. n ≤ m) (sym (most_of_reply-Range r)) h

pub fits-Put : (held : Option KvRef) (n : ℕ) → n ≤ 142 + most_or 0 (option_map kv_view held) → n ≤ most_of_reply (Put held)
fits-Put held n h = subst (λ m. n ≤ m) (sym (most_of_reply-Put held)) h

pub fits-Delete : (deleted : ℕ) (previous : Vec KvRef Global) (n : ℕ) → n ≤ 142 + most_of_kvs previous.items
    → n ≤ most_of_reply (Delete deleted previous)
fits-Delete deleted previous n h = subst (λ m. n ≤ m) (sym (most_of_reply-Delete deleted previous)) h

pub fits-Inner : (succeeded : Bool) (replies : Vec OpReply Global) (n : ℕ) → n ≤ 142 + total (map most_of_reply replies.items)
    → n ≤ most_of_reply (Inner succeeded replies)
fits-Inner succeeded replies n h = subst (λ m. n ≤ m) (sym (most_of_reply-Inner succeeded replies)) h

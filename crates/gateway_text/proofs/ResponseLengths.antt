-- How long the texts of responses within a transaction's answer are, at most.
use Rattle.std.proofs.Common.{◌≡◌, ◌≤◌, ◌<◌, ◌+◌, ◌^◌, ℕ, List, [], ◌∷◌, ◌++◌, length, map, Bool, true, false, refl, arith}
use Rattle.std.specs.Prelude.{Option, None, Some, option_map, codes, decimal}
use Rattle.std.specs.Fmt.{digits}
use Rattle.std.proofs.lemmas.List.{length-append}
use Rattle.json.specs.Print.{escape_byte, quoted}
use Rattle.serde_json.specs.Data.{Data}
use Rattle.serde_json.specs.Written.{compact_text, items_text}
use Rattle.kv_model.specs.Answers.{delete_text, items_of, key_value_text, list_field, nat_field, put_text, range_text, response, responses}
use Rattle.kv_model.specs.Answers.{short_header, truth_field, txn_text}
use Rattle.range_view.specs.declared.reply.KvRef.{KvRef}
use Rattle.range_view.specs.declared.reply.RangeReply.{RangeReply}
use Rattle.range_view.specs.declared.reply.OpReply.{OpReply}
use Rattle.range_view.specs.Replies.{kv_view, reply_view, replies_view}
use Rattle.gateway_text.specs.Rooms.{held_len, kv_len, member_len, text_len, total}
use Rattle.gateway_text.specs.Lengths.{response_len}
use Rattle.gateway_text.specs.Views.{response_of}
use Rattle.gateway_text.proofs.Lengths.{number-most, object-most}
use Rattle.gateway_text.proofs.Objects.{map-map}
use Rattle.gateway_text.proofs.Responses.{each}

-- ---- lists

item-len : (t r : List ℕ) (n : ℕ) → length r ≡ n + 1 → length (44 ∷ (t ++ r)) ≡ 1 + length t + n + 1
item-len t r n e = omega (arith, e, length-append t r)

items-later : {X : Type 0} (f : X → Data) (xs : List X) → length (items_text true (items_of (map f xs)))
    ≡ total (map (λ x. 1 + text_len (f x)) xs) + 1
items-later f [] = refl
items-later f (x ∷ xs) = item-len (compact_text (f x)) (items_text true (items_of (map f xs))) (total (map (λ y. 1 + text_len (f y)) xs))
    (items-later f xs)

pub list-most : {X : Type 0} (f : X → Data) (name : List ℕ) (xs : List X)
    → member_len name (list_field (map f xs)) ≤ length (quoted name) + 3 + total (map (λ x. 1 + text_len (f x)) xs)
list-most f name [] = omega arith
list-most f name (x ∷ xs) =
    omega (arith, length-append (compact_text (f x)) (items_text true (items_of (map f xs))), items-later f xs)

-- ---- the parts of a response

short-most : (r d : ℕ) → r < 2 ^ 64 → length (decimal r) ≤ d → text_len (short_header r) ≤ 15 + d
unfolding short_header escape_byte digits
short-most r d small low =
    let revision : member_len (codes "revision") (nat_field r) ≤ 10 + 4 + d = number-most (codes "revision") r d small low in
    omega (arith, object-most ((codes "revision", nat_field r) ∷ []) (13 + d) (omega (arith, revision)))

truth-most : (name : List ℕ) (b : Bool) → member_len name (truth_field b) ≤ length (quoted name) + 6
truth-most name true = omega arith
truth-most name false = omega arith

one-member : (name : List ℕ) (d : Data) → text_len (response name d) ≤ length (quoted name) + 3 + text_len d
unfolding response
one-member name d = omega (arith, object-most ((name, Some d) ∷ []) (length (quoted name) + 1 + text_len d) (omega arith))

module _ (r d : ℕ) (small : r < 2 ^ 64) (low : length (decimal r) ≤ d) where
  head-len : member_len (codes "header") (Some (short_header r)) ≤ 25 + d
  unfolding escape_byte
  head-len = omega (arith, short-most r d small low)

  pub range-most : (q : RangeReply) (n : ℕ) → q.count < 2 ^ 64 → length (decimal q.count) ≤ n
      → 1 + text_len (response (codes "response_range") (range_text (short_header r) (reply_view q))) ≤ 77 + d + n + total (map kv_len q.kvs.items)
  unfolding range_text escape_byte digits
  range-most q n fits few =
      let count : member_len (codes "count") (nat_field q.count) ≤ 7 + 4 + n = number-most (codes "count") q.count n fits few in
      let kvs : member_len (codes "kvs") (list_field (map key_value_text (map kv_view q.kvs.items))) ≤ 8 + total (map kv_len q.kvs.items) =
      rw (map-map key_value_text kv_view q.kvs.items) (list-most (λ kv. key_value_text (kv_view kv)) (codes "kvs") q.kvs.items) in
      let more : member_len (codes "more") (truth_field q.more) ≤ 6 + 6 = truth-most (codes "more") q.more in
      let whole : text_len (range_text (short_header r) (reply_view q)) ≤ 57 + d + n + total (map kv_len q.kvs.items) =
      omega (
        arith,
        object-most ((codes "count", nat_field q.count) ∷ (codes "header", Some (short_header r))
            ∷ (codes "kvs", list_field (map key_value_text (map kv_view q.kvs.items))) ∷ (codes "more", truth_field q.more) ∷ [])
            (55 + d + n + total (map kv_len q.kvs.items)) (omega (arith, count, head-len, kvs, more)),
      ) in
      let one : text_len (response (codes "response_range") (range_text (short_header r) (reply_view q)))
      ≤ 16 + 3 + text_len (range_text (short_header r) (reply_view q)) = one-member (codes "response_range") _ in
      omega (arith, one, whole)

  held-field : (held : Option KvRef) → member_len (codes "prev_kv") (option_map key_value_text (option_map kv_view held)) ≤ 10 + held_len held
  unfolding escape_byte
  held-field None = omega arith
  held-field (Some kv) = omega arith

  pub put-most : (held : Option KvRef)
      → 1 + text_len (response (codes "response_put") (put_text (short_header r) (option_map kv_view held))) ≤ 54 + d + held_len held
  unfolding put_text escape_byte
  put-most held =
      let whole : text_len (put_text (short_header r) (option_map kv_view held)) ≤ 36 + d + held_len held =
      omega (
        arith,
        object-most ((codes "header", Some (short_header r)) ∷ (codes "prev_kv", option_map key_value_text (option_map kv_view held)) ∷ [])
            (34 + d + held_len held) (omega (arith, head-len, held-field held)),
      ) in
      let one : text_len (response (codes "response_put") (put_text (short_header r) (option_map kv_view held)))
      ≤ 14 + 3 + text_len (put_text (short_header r) (option_map kv_view held)) = one-member (codes "response_put") _ in
      omega (arith, one, whole)

  pub delete-most : (deleted n : ℕ) (previous : List KvRef) → deleted < 2 ^ 64 → length (decimal deleted) ≤ n
      → 1 + text_len (response (codes "response_delete_range") (delete_text (short_header r) deleted (map kv_view previous))) ≤ 79 + d + n + total (map kv_len previous)
  unfolding delete_text escape_byte digits
  delete-most deleted n previous fits few =
      let count : member_len (codes "deleted") (nat_field deleted) ≤ 9 + 4 + n = number-most (codes "deleted") deleted n fits few in
      let kvs : member_len (codes "prev_kvs") (list_field (map key_value_text (map kv_view previous))) ≤ 13 + total (map kv_len previous) =
      rw (map-map key_value_text kv_view previous) (list-most (λ kv. key_value_text (kv_view kv)) (codes "prev_kvs") previous) in
      let whole : text_len (delete_text (short_header r) deleted (map kv_view previous)) ≤ 52 + d + n + total (map kv_len previous) =
      omega (
        arith,
        object-most ((codes "deleted", nat_field deleted) ∷ (codes "header", Some (short_header r))
            ∷ (codes "prev_kvs", list_field (map key_value_text (map kv_view previous))) ∷ [])
            (50 + d + n + total (map kv_len previous)) (omega (arith, count, head-len, kvs)),
      ) in
      let one : text_len (response (codes "response_delete_range") (delete_text (short_header r) deleted (map kv_view previous)))
      ≤ 23 + 3 + text_len (delete_text (short_header r) deleted (map kv_view previous)) = one-member (codes "response_delete_range") _ in
      omega (arith, one, whole)

  pub inner-most : (succeeded : Bool) (replies : List OpReply)
      → 1 + text_len (response (codes "response_txn") (txn_text (short_header r) succeeded (responses r (replies_view replies))))
      ≤ 75 + d + total (map (response_len r) replies)
  unfolding txn_text escape_byte
  inner-most succeeded replies =
      let all : member_len (codes "responses") (list_field (responses r (replies_view replies))) ≤ 14 + total (map (response_len r) replies) =
      rw (each r replies) (list-most (response_of r) (codes "responses") replies) in
      let truth : member_len (codes "succeeded") (truth_field succeeded) ≤ 11 + 6 = truth-most (codes "succeeded") succeeded in
      let whole : text_len (txn_text (short_header r) succeeded (responses r (replies_view replies))) ≤ 57 + d + total (map (response_len r) replies) =
      omega (
        arith,
        object-most ((codes "header", Some (short_header r)) ∷ (codes "responses", list_field (responses r (replies_view replies)))
            ∷ (codes "succeeded", truth_field succeeded) ∷ []) (55 + d + total (map (response_len r) replies)) (omega (arith, head-len, all, truth)),
      ) in
      let one : text_len (response (codes "response_txn") (txn_text (short_header r) succeeded (responses r (replies_view replies))))
      ≤ 14 + 3 + text_len (txn_text (short_header r) succeeded (responses r (replies_view replies))) = one-member (codes "response_txn") _ in
      omega (arith, one, whole)

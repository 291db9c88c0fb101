-- A Range's answer in parts: what a part adds, and what is left to write behind the last.
use Rattle.std.proofs.Common.{◌≡◌, ℕ, nat_eq, true, false, not, List, [], ◌∷◌, ◌++◌, length, map, refl, ap, sym, ◌∙◌, append_assoc}
use Rattle.std.specs.Prelude.{if◌then◌else◌}
use Rattle.std.proofs.Math.Dec.{eqb-suc-zero}
use Rattle.std.specs.Prelude.{Some, codes}
use Rattle.std.specs.List.{flat_map}
use Rattle.std.proofs.lemmas.List.Concat.{flat_map-append}
use Rattle.std.proofs.lemmas.List.Folds.{flat_map-map}
use Rattle.json.specs.Token.{Token, begin_object, end_object, end_array}
use Rattle.json.specs.Print.{print}
use Rattle.serde_json.specs.Written.{compact_text}
use Rattle.serde_json.proofs.Texts.{print-outline}
use Rattle.kv_model.specs.declared.ids.Ids.{Ids}
use Rattle.kv_model.specs.Answers.{header, key_value_text, list_field, nat_field, range_text, truth_field}
use Rattle.kv_model.specs.History.{KeyValue}
use Rattle.kv_model.specs.Lists.{is_empty}
use Rattle.range_view.specs.declared.reply.KvRef.{KvRef}
use Rattle.range_view.specs.Replies.{kv_view}
use Rattle.gateway_text.specs.declared.range_parts.RangeText.{RangeText}
use Rattle.gateway_text.specs.RangeParts.{IsRangeText, kvs_begun, kvs_opening, range_begun}
use Rattle.gateway_text.specs.Tokens.{data_tokens, field_tokens}
use Rattle.gateway_text.proofs.Objects.{by_fields, list_tokens}

abbrev shown : KeyValue → List Token
shown kv = data_tokens (key_value_text kv)

-- ---- a part is added

list_grows : (seen part : List KeyValue) → nat_eq (length part) 0 ≡ false
    → kvs_begun (seen ++ part) ≡ kvs_begun seen ++ ((if not (is_empty seen) then [] else kvs_opening) ++ flat_map shown part)
list_grows [] [] h = cc
list_grows [] (kv ∷ kvs) h = refl
list_grows (s ∷ ss) part h = ap (λ t. kvs_opening ++ t) (flat_map-append shown (s ∷ ss) part)

answer_grows : (ids : Ids) (revision count : ℕ) (seen part : List KeyValue) → nat_eq (length part) 0 ≡ false
    → range_begun ids revision count (seen ++ part)
    ≡ range_begun ids revision count seen ++ ((if not (is_empty seen) then [] else kvs_opening) ++ flat_map shown part)
answer_grows ids revision count seen part h =
    ap (λ t. begin_object ∷ (field_tokens (codes "count") (nat_field count) ++ (field_tokens (codes "header") (Some (header ids revision)) ++ t)))
    (list_grows seen part h) ∙ simp append_assoc

has_some : (seen part : List KeyValue) → nat_eq (length part) 0 ≡ false → not (is_empty (seen ++ part)) ≡ true
has_some [] [] h = cc
has_some [] (kv ∷ kvs) h = refl
has_some (s ∷ ss) part h = refl

viewed-some : (kvs : List KvRef) → nat_eq (length kvs) 0 ≡ false → nat_eq (length (map kv_view kvs)) 0 ≡ false
viewed-some [] h = h
viewed-some (kv ∷ kvs) h = eqb-suc-zero (length (map kv_view kvs))

-- the list is begun where it was not, and then the key-values are written
pub some_added : (ids : Ids) (revision count : ℕ) (seen : List KeyValue) (old new : RangeText) (begun : List Token) (kvs : List KvRef)
    → nat_eq (length kvs) 0 ≡ false → begun ≡ old.text ++ (if old.has_kvs then [] else kvs_opening)
    → new.text ≡ begun ++ flat_map (λ x. shown (kv_view x)) kvs → new.has_kvs ≡ true
    → IsRangeText ids revision count seen old → IsRangeText ids revision count (seen ++ map kv_view kvs) new
some_added ids revision count seen old new begun kvs some opened grown has h = record {
  tokens = grown ∙ ap (λ t. t ++ flat_map (λ x. shown (kv_view x)) kvs) (opened ∙ at_seen)
      ∙ append_assoc (range_begun ids revision count seen) opening (flat_map (λ x. shown (kv_view x)) kvs)
      ∙ ap (λ t. range_begun ids revision count seen ++ (opening ++ t)) (sym (flat_map-map shown kv_view kvs))
      ∙ sym (answer_grows ids revision count seen (map kv_view kvs) (viewed-some kvs some));
  has_kvs = has ∙ sym (has_some seen (map kv_view kvs) (viewed-some kvs some));
}
  where
    opening : List Token
    opening = if not (is_empty seen) then [] else kvs_opening

    at_seen : old.text ++ (if old.has_kvs then [] else kvs_opening) ≡ range_begun ids revision count seen ++ opening
    at_seen = λ i. h.tokens i ++ (if h.has_kvs i then [] else kvs_opening)

-- ---- the end

list_ends : (seen : List KeyValue)
    → field_tokens (codes "kvs") (list_field (map key_value_text seen))
    ≡ kvs_begun seen ++ (if not (is_empty seen) then end_array ∷ [] else [])
list_ends [] = refl
list_ends (s ∷ ss) = list_tokens key_value_text (codes "kvs") (s ∷ ss) (eqb-suc-zero (length ss))

answer_ends : (ids : Ids) (revision count : ℕ) (seen : List KeyValue)
    → (range_begun ids revision count seen ++ (if not (is_empty seen) then end_array ∷ [] else [])) ++ end_object ∷ []
    ≡ data_tokens (range_text (header ids revision) (record { kvs = seen; count = count; more = false; revision = revision }))
unfolding range_text
answer_ends ids revision count seen =
    by_fields [] _ ((codes "count", nat_field count) ∷ (codes "header", Some (header ids revision))
    ∷ (codes "kvs", list_field (map key_value_text seen)) ∷ (codes "more", truth_field false) ∷ [])
    ((simp append_assoc)
    ∙ ap (λ t. begin_object ∷ (field_tokens (codes "count") (nat_field count)
    ++ (field_tokens (codes "header") (Some (header ids revision)) ++ t)))
    (sym (append_assoc (kvs_begun seen) _ (end_object ∷ [])) ∙ ap (λ t. t ++ end_object ∷ []) (sym (list_ends seen))))

-- the body of what was ended
pub ended : (ids : Ids) (revision count : ℕ) (seen : List KeyValue) (t : RangeText) (list whole : List Token) (body : List ℕ)
    → list ≡ t.text ++ (if t.has_kvs then end_array ∷ [] else []) → whole ≡ list ++ end_object ∷ [] → body ≡ print whole
    → IsRangeText ids revision count seen t
    → body ≡ compact_text (range_text (header ids revision) (record { kvs = seen; count = count; more = false; revision = revision }))
ended ids revision count seen t list whole body closes ends printed h =
    printed ∙ ap print (ends ∙ ap (λ s. s ++ end_object ∷ []) (closes ∙ at_seen) ∙ answer_ends ids revision count seen) ∙ print-outline _
  where
    at_seen : t.text ++ (if t.has_kvs then end_array ∷ [] else [])
        ≡ range_begun ids revision count seen ++ (if not (is_empty seen) then end_array ∷ [] else [])
    at_seen = λ i. h.tokens i ++ (if h.has_kvs i then end_array ∷ [] else [])

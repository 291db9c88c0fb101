-- The text of a Range's answer while its key-values come in parts.
use Rattle.std.specs.Prelude.{◌≡◌, ℕ, List, [], ◌∷◌, ◌++◌, Some, codes, not}
use Rattle.std.specs.List.{flat_map}
use Rattle.json.specs.Token.{Token, key, begin_object, begin_array}
use Rattle.kv_model.specs.declared.ids.Ids.{Ids}
use Rattle.kv_model.specs.Answers.{header, key_value_text, nat_field}
use Rattle.kv_model.specs.History.{KeyValue}
use Rattle.kv_model.specs.Lists.{is_empty}
use Rattle.gateway_text.specs.declared.range_parts.RangeText.{RangeText}
use Rattle.gateway_text.specs.Tokens.{data_tokens, field_tokens}

-- what stands before the first key-value
abbrev pub kvs_opening : List Token
kvs_opening = key (codes "kvs") ∷ begin_array ∷ []

-- the list of key-values so far, which is left out while there is none
abbrev pub kvs_begun : List KeyValue → List Token
kvs_begun [] = []
kvs_begun (kv ∷ kvs) = kvs_opening ++ flat_map (λ x. data_tokens (key_value_text x)) (kv ∷ kvs)

-- an answer so far: the count, the header, and the key-values
abbrev pub range_begun : Ids → ℕ → ℕ → List KeyValue → List Token
range_begun ids revision count seen = begin_object ∷ (field_tokens (codes "count") (nat_field count)
    ++ (field_tokens (codes "header") (Some (header ids revision)) ++ kvs_begun seen))

-- the text has these key-values, of an answer that shows so many keys at the revision
pub record IsRangeText (ids : Ids) (revision count : ℕ) (seen : List KeyValue) (t : RangeText) : Type 0 where
  pub tokens : t.text ≡ range_begun ids revision count seen
  pub has_kvs : t.has_kvs ≡ not (is_empty seen)

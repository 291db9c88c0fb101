-- The data that a value over its text stands for. The text of a number stands for the number that it writes.
use Rattle.std.specs.Prelude.{ℕ, List, [], ◌∷◌, Bool, true, false, ◌&&◌, Option, None, Some, is_some}
use Rattle.std.specs.Float.{binary64}
use Rattle.std.specs.declared.alloc.Global.{Global}
use Rattle.fast_float.specs.Text.{scan, nearest}
use Rattle.json.specs.Json as json
use Rattle.json.specs.Value as tree
use Rattle.json.specs.declared.value.Value.{Value}
use Rattle.serde_json.specs.Data.{Num, unsigned, negative, float, Data, null, boolean, number, string, array, object, Items, no_items, item}
use Rattle.serde_json.specs.Data.{Members, no_members, put}
use Rattle.serde_json.specs.Read.{number_of}
use Rattle.gateway_read.specs.declared.number.Number as declared
use Rattle.gateway_read.specs.declared.number.Number.TheVariants as variant

abbrev pub number_view : declared.Number → Num
number_view (variant.Unsigned n) = unsigned n
number_view (variant.Negative z) = negative z
number_view (variant.Float x) = float x

-- the number, or a float where it is out of range; no value that is kept has one
abbrev pub num_or_float : List ℕ → Option Num → Num
num_or_float s None = float (nearest binary64 false (scan s))
num_or_float s (Some n) = n

-- The members go in one after another, so the last value of a name stays.
abbrev mutual
  pub data_of : json.Json → Data
  data_of json.null = null
  data_of (json.boolean b) = boolean b
  data_of (json.number s) = number (num_or_float s (number_of s))
  data_of (json.string s) = string s
  data_of (json.array js) = array (items_data js)
  data_of (json.object ms) = object (members_data ms no_members)

  pub items_data : json.Items → Items
  items_data json.no_items = no_items
  items_data (json.item j js) = item (data_of j) (items_data js)

  pub members_data : json.Members → Members → Members
  members_data json.no_members found = found
  members_data (json.member k j ms) found = members_data ms (put k (data_of j) found)

-- each number is an integer of 64 bits, or a finite float
abbrev mutual
  pub in_range : json.Json → Bool
  in_range json.null = true
  in_range (json.boolean b) = true
  in_range (json.number s) = is_some (number_of s)
  in_range (json.string s) = true
  in_range (json.array js) = items_in_range js
  in_range (json.object ms) = members_in_range ms

  pub items_in_range : json.Items → Bool
  items_in_range json.no_items = true
  items_in_range (json.item j js) = in_range j && items_in_range js

  pub members_in_range : json.Members → Bool
  members_in_range json.no_members = true
  members_in_range (json.member k j ms) = in_range j && members_in_range ms

abbrev pub Tree : Type 0
Tree = Value Global

abbrev pub view : Tree → Data
view v = data_of (tree.value_view v)

abbrev pub items_view : List Tree → Items
items_view [] = no_items
items_view (v ∷ vs) = item (view v) (items_view vs)

-- the members of an object; no other value has some
abbrev pub members_of : Data → Members
members_of (object ms) = ms
members_of _ = no_members

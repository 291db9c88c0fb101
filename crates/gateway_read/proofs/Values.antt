-- Values over their text: their numbers, and what is found in them.
use Rattle.std.proofs.Common.{◌≡◌, ℕ, List, [], ◌∷◌, Bool, true, false, ◌&&◌, cond, Option, None, Some, is_some, option_map, option_and_then}
use Rattle.std.proofs.Common.{refl, sym, ap, ◌∙◌, bytes_eq, true≢false, Bor}
use Rattle.std.proofs.lemmas.Slice.Eq.{bytes_eq-Decides}
use Rattle.json.specs.Json as json
use Rattle.json.specs.Find as text
use Rattle.json.specs.Value as tree
use Rattle.serde_json.specs.Data.{Num, Data, number, array, object, Items, item, Members, no_members, put}
use Rattle.serde_json.specs.Find as find
use Rattle.serde_json.specs.Read.{number_of, of_json, of_items, of_members}
use Rattle.serde_json.proofs.Views.{get_member-put, get_member-put_other}
use Rattle.gateway_read.specs.Values.{num_or_float, data_of, items_data, members_data, in_range, items_in_range, members_in_range}
use Rattle.gateway_read.specs.Values.{Tree, view, items_view, members_of}

-- ---- numbers in range

number_ranged : (s : List ℕ) (o : Option Num) → option_map number o ≡ cond (is_some o) (Some (number (num_or_float s o))) None
number_ranged s None = refl
number_ranged s (Some n) = refl

mapped : {A B : Type 0} (f : A → B) (b : Bool) (x : A) → option_map f (cond b (Some x) None) ≡ cond b (Some (f x)) None
mapped f true x = refl
mapped f false x = refl

with_both : (a b : Bool) (d : Data) (ds : Items)
    → option_and_then (λ d. option_map (item d) (cond b (Some ds) None)) (cond a (Some d) None) ≡ cond (a && b) (Some (item d ds)) None
with_both true true d ds = refl
with_both true false d ds = refl
with_both false b d ds = refl

with_member : (a b : Bool) (d : Data) (f : Data → Option Members) (ms : Members) → f d ≡ cond b (Some ms) None
    → option_and_then f (cond a (Some d) None) ≡ cond (a && b) (Some ms) None
with_member true b d f ms e = e
with_member false b d f ms e = refl

-- what is read of a tree is its data, where each number is in range
mutual
  pub of_json-ranged : (j : json.Json) → of_json j ≡ cond (in_range j) (Some (data_of j)) None
  of_json-ranged json.null = refl
  of_json-ranged (json.boolean b) = refl
  of_json-ranged (json.number s) = number_ranged s (number_of s)
  of_json-ranged (json.string s) = refl
  of_json-ranged (json.array js) = ap (option_map array) (of_items-ranged js) ∙ mapped array (items_in_range js) (items_data js)
  of_json-ranged (json.object ms) = ap (option_map object) (of_members-ranged ms no_members)
      ∙ mapped object (members_in_range ms) (members_data ms no_members)

  of_items-ranged : (js : json.Items) → of_items js ≡ cond (items_in_range js) (Some (items_data js)) None
  of_items-ranged json.no_items = refl
  of_items-ranged (json.item j js) = (λ i. option_and_then (λ d. option_map (item d) (of_items-ranged js i)) (of_json-ranged j i))
      ∙ with_both (in_range j) (items_in_range js) (data_of j) (items_data js)

  of_members-ranged : (ms : json.Members) (found : Members) → of_members ms found ≡ cond (members_in_range ms) (Some (members_data ms found)) None
  of_members-ranged json.no_members found = refl
  of_members-ranged (json.member k j ms) found = ap (option_and_then (λ d. of_members ms (put k d found))) (of_json-ranged j)
      ∙ with_member (in_range j) (members_in_range ms) (data_of j) (λ d. of_members ms (put k d found))
      (members_data ms (put k (data_of j) found)) (of_members-ranged ms (put k (data_of j) found))

-- ---- kinds of value

pub null-data : (j : json.Json) → is_some (find.as_null (data_of j)) ≡ text.is_null j
null-data json.null = refl
null-data (json.boolean b) = refl
null-data (json.number s) = refl
null-data (json.string s) = refl
null-data (json.array js) = refl
null-data (json.object ms) = refl

pub str-data : (j : json.Json) → find.as_str (data_of j) ≡ text.as_str j
str-data json.null = refl
str-data (json.boolean b) = refl
str-data (json.number s) = refl
str-data (json.string s) = refl
str-data (json.array js) = refl
str-data (json.object ms) = refl

pub bool-data : (j : json.Json) → find.as_bool (data_of j) ≡ text.as_bool j
bool-data json.null = refl
bool-data (json.boolean b) = refl
bool-data (json.number s) = refl
bool-data (json.string s) = refl
bool-data (json.array js) = refl
bool-data (json.object ms) = refl

-- the number that the text writes, where it is in range and a look takes no float
number_looked : {X : Type 0} (look : Num → Option X) (s : List ℕ) (o : Option Num)
    → look (num_or_float s None) ≡ None → look (num_or_float s o) ≡ option_and_then look o
number_looked look s None none = none
number_looked look s (Some n) none = refl

pub number-data : {X : Type 0} (look : Num → Option X) → ((s : List ℕ) → look (num_or_float s None) ≡ None) → (j : json.Json)
    → option_and_then look (find.as_number (data_of j)) ≡ option_and_then (λ s. option_and_then look (number_of s)) (text.as_number j)
number-data look none json.null = refl
number-data look none (json.boolean b) = refl
number-data look none (json.number s) = number_looked look s (number_of s) (none s)
number-data look none (json.string s) = refl
number-data look none (json.array js) = refl
number-data look none (json.object ms) = refl

pub items-data : (vs : List Tree) → items_data (tree.items_view vs) ≡ items_view vs
items-data [] = refl
items-data (v ∷ vs) = ap (item (view v)) (items-data vs)

-- ---- names

abbrev last_or : Option Data → Option Data → Option Data
last_or (Some d) earlier = Some d
last_or None earlier = earlier

name_here : (name k : List ℕ) (j : json.Json) (found : Members) (b : Bool) → bytes_eq k name ≡ b
    → find.get_member name (put k (data_of j) found) ≡ last_or (option_map data_of (cond b (Some j) None)) (find.get_member name found)
name_here name k j found true is =
    let same : k ≡ name = (bytes_eq-Decides k name).0 is in
    ap (λ n. find.get_member n (put k (data_of j) found)) (sym same) ∙ get_member-put k (data_of j) found
name_here name k j found false is =
    get_member-put_other name k (data_of j) found (λ same. true≢false (sym ((bytes_eq-Decides k name).1 (sym same)) ∙ is))

later : (name k : List ℕ) (j : json.Json) (found : Members) (o : Option json.Json)
    → last_or (option_map data_of o) (find.get_member name (put k (data_of j) found))
    ≡ last_or (option_map data_of (text.later_or o (cond (bytes_eq k name) (Some j) None))) (find.get_member name found)
later name k j found None = name_here name k j found (bytes_eq k name) refl
later name k j found (Some x) = refl

members-found : (name : List ℕ) (ms : json.Members) (found : Members) → find.get_member name (members_data ms found)
    ≡ last_or (option_map data_of (text.get_member name ms)) (find.get_member name found)
members-found name json.no_members found = refl
members-found name (json.member k j ms) found = members-found name ms (put k (data_of j) found)
    ∙ later name k j found (text.get_member name ms)

last_or-none : (o : Option json.Json) → last_or (option_map data_of o) None ≡ option_map data_of o
last_or-none None = refl
last_or-none (Some j) = refl

pub found-data : (name : List ℕ) (j : json.Json) → option_map data_of (text.get name j) ≡ find.get_member name (members_of (data_of j))
found-data name json.null = refl
found-data name (json.boolean b) = refl
found-data name (json.number s) = refl
found-data name (json.string s) = refl
found-data name (json.array js) = refl
found-data name (json.object ms) = sym (members-found name ms no_members ∙ last_or-none (text.get_member name ms))

-- ---- what calls give

pub viewed : (r : Option (Bor Tree)) → option_map (λ v. view v.now) r ≡ option_map data_of (option_map (λ v. tree.value_view v.now) r)
viewed None = refl
viewed (Some v) = refl

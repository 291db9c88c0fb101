-- The tokens of objects and lists, part by part.
use Rattle.std.proofs.Common.{◌≡◌, ℕ, nat_eq, false, List, [], ◌∷◌, ◌++◌, length, map, refl, ap, sym, ◌∙◌, append_assoc}
use Rattle.std.specs.Prelude.{Option, None, Some, option_map, Result, Ok, Err, OnOk}
use Rattle.std.specs.List.{flat_map}
use Rattle.json.specs.Token.{Token, key, begin_object, end_object, begin_array, end_array}
use Rattle.json.specs.Print.{print}
use Rattle.json.specs.Tree.{items_tokens, members_tokens}
use Rattle.serde_json.specs.Data.{Data, Members}
use Rattle.serde_json.specs.Written.{items_outline, members_outline, compact_text}
use Rattle.serde_json.proofs.Texts.{print-outline}
use Rattle.kv_model.specs.Answers.{with_field, members, object, list_field, items_of}
use Rattle.gateway_text.specs.Tokens.{data_tokens, field_tokens}

-- what follows from a fact of an `Ok`
pub on_ok : {T E : Type 0} (r : Result T E) (P Q : Type 0) → (P → Q) → OnOk r P → OnOk r Q
on_ok (Ok x) P Q f h = f h
on_ok (Err e) P Q f h = h

-- a member's tokens stand before those of the members after it
pub member_tokens : (name : List ℕ) (f : Option Data) (rest : Members)
    → members_tokens (members_outline (with_field name f rest)) ≡ field_tokens name f ++ members_tokens (members_outline rest)
member_tokens name None rest = refl
member_tokens name (Some d) rest = refl

-- the members of an object, one after another, and its end
abbrev pub fields_tokens : List (List ℕ × Option Data) → List Token
fields_tokens [] = end_object ∷ []
fields_tokens (f ∷ fs) = field_tokens f.0 f.1 ++ fields_tokens fs

members_of_fields : (fs : List (List ℕ × Option Data)) → members_tokens (members_outline (members fs)) ≡ fields_tokens fs
members_of_fields [] = refl
members_of_fields (f ∷ fs) = member_tokens f.0 f.1 (members fs) ∙ ap (λ s. field_tokens f.0 f.1 ++ s) (members_of_fields fs)

-- an object is written by its members
pub by_fields : (old new : List Token) (fs : List (List ℕ × Option Data)) → new ≡ old ++ begin_object ∷ fields_tokens fs
    → new ≡ old ++ data_tokens (object fs)
by_fields old new fs e = e ∙ ap (λ s. old ++ begin_object ∷ s) (sym (members_of_fields fs))

-- a list's items, one after another, and its end
items : {X : Type 0} (v : X → Data) (xs : List X)
    → items_tokens (items_outline (items_of (map v xs))) ≡ flat_map (λ x. data_tokens (v x)) xs ++ end_array ∷ []
items v [] = refl
items v (x ∷ xs) =
    ap (λ s. data_tokens (v x) ++ s) (items v xs)
    ∙ sym (append_assoc (data_tokens (v x)) (flat_map (λ y. data_tokens (v y)) xs) (end_array ∷ []))

-- a list that has items
pub list_tokens : {X : Type 0} (v : X → Data) (name : List ℕ) (xs : List X) → nat_eq (length xs) 0 ≡ false
    → field_tokens name (list_field (map v xs)) ≡ key name ∷ begin_array ∷ (flat_map (λ x. data_tokens (v x)) xs ++ end_array ∷ [])
list_tokens v name [] h = cc
list_tokens v name (x ∷ xs) h = ap (λ s. key name ∷ begin_array ∷ s) (items v (x ∷ xs))

-- two views, one after the other, of a list's items
pub map-map : {X Y Z : Type 0} (g : Y → Z) (f : X → Y) (xs : List X) → map g (map f xs) ≡ map (λ x. g (f x)) xs
map-map g f [] = refl
map-map g f (x ∷ xs) = ap (λ ys. g (f x) ∷ ys) (map-map g f xs)

-- two views, one after the other, of what may be missing
pub option_map-option_map : {X Y Z : Type 0} (g : Y → Z) (f : X → Y) (o : Option X)
    → option_map g (option_map f o) ≡ option_map (λ x. g (f x)) o
option_map-option_map g f None = refl
option_map-option_map g f (Some x) = refl

-- the bytes of a text that began empty
pub written : (b : List ℕ) (t u : List Token) (d : Data) → b ≡ print u → u ≡ t ++ data_tokens d → t ≡ [] → b ≡ compact_text d
written b t u d e f h = e ∙ ap print (f ∙ ap (λ s. s ++ data_tokens d) h) ∙ print-outline d

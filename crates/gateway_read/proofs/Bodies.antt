-- The value that a body is, and then the object.
use Rattle.std.proofs.Common.{◌≡◌, ◌≢◌, ℕ, List, length, Bool, true, false, cond, Option, None, Some, option_and_then}
use Rattle.std.proofs.Common.{Result, Ok, Err, IfOk, IfErr, refl, ap, ◌∙◌}
use Rattle.std.specs.Prelude.{nat_lt}
use Rattle.std.specs.Str.{IsUtf8, is_utf8}
use Rattle.std.proofs.lemmas.Str.{is_utf8-from_IsUtf8, IsUtf8-from_is_utf8}
use Rattle.std.proofs.lemmas.Bool.{false_from_ne_true}
use Rattle.json.specs.Json.{Json}
use Rattle.json.specs.Value.{value_view}
use Rattle.json.specs.declared.error.Error.{Error}
use Rattle.json.specs.declared.error.Error.TheVariants.{Invalid, OutOfMemory, TooLong, DuplicateKey}
use Rattle.serde_json.specs.Data.{Data}
use Rattle.serde_json.specs.Read.{read, of_json}
use Rattle.kv_model.specs.Requests as requests
use Rattle.kv_model.specs.Requests.{Read, ◌>>=◌}
use Rattle.gateway_read.specs.declared.bad.Bad.{Bad}
use Rattle.gateway_read.specs.Bodies.{tree_of, value_read, IsChecked}
use Rattle.gateway_read.specs.Reading.{Fails, Gives}
use Rattle.gateway_read.specs.Values.{Tree, view, data_of, in_range}
use Rattle.gateway_read.proofs.Values.{of_json-ranged}
use Rattle.gateway_read.proofs.Steps.{fails_then}

json_of-read : (text : List ℕ) → IsUtf8 text → requests.json_of text ≡ read text
json_of-read text h = ap (λ b. cond b (read text) None) (is_utf8-from_IsUtf8 text h)

pub json_of-none : (text : List ℕ) → (IsUtf8 text → ⊥) → requests.json_of text ≡ None
json_of-none text h = ap (λ b. cond b (read text) None) (false_from_ne_true (is_utf8 text) (λ e. h (IsUtf8-from_is_utf8 text e)))

-- what is read of a text is the data of its tree, where each number is in range
read-tree : (text : List ℕ) (j : Json) → tree_of text ≡ Some j → read text ≡ cond (in_range j) (Some (data_of j)) None
read-tree text j is = ap (option_and_then of_json) is ∙ of_json-ranged j

read-no_tree : (text : List ℕ) → tree_of text ≡ None → read text ≡ None
read-no_tree text is = ap (option_and_then of_json) is

by_range : (b : Bool) (v : Tree) (r : Result Tree Bad) → r ≡ cond b (Ok v) (Err Bad.NotJson)
    → Gives view r (requests.some_or requests.not_json (cond b (Some (view v)) None))
by_range true v r is = rw is refl
by_range false v r is = rw is refl

pub json_of-checked : (bytes text : List ℕ) (made : Result Tree Error) (r : Result Tree Bad) → IsUtf8 bytes → text ≡ bytes
    → IfOk made (λ v. tree_of text ≡ Some (value_view v)) → IfErr made (λ e. e ≢ OutOfMemory → tree_of text ≡ None) → IsChecked made r
    → Gives view r (requests.some_or requests.not_json (requests.json_of bytes))
json_of-checked bytes text (Ok v) r u same ok err came =
    rw (json_of-read bytes u, ← same, read-tree text (value_view v) ok) (by_range (in_range (value_view v)) v r came)
json_of-checked bytes text (Err OutOfMemory) r u same ok err came = rw came tt
json_of-checked bytes text (Err Invalid) r u same ok err came = rw (came, json_of-read bytes u, ← same, read-no_tree text (err (λ e. cc))) refl
json_of-checked bytes text (Err TooLong) r u same ok err came = rw (came, json_of-read bytes u, ← same, read-no_tree text (err (λ e. cc))) refl
json_of-checked bytes text (Err DuplicateKey) r u same ok err came =
    rw (came, json_of-read bytes u, ← same, read-no_tree text (err (λ e. cc))) refl

-- the object of a body is that of its value
pub object_of-value : (body : List ℕ)
    → requests.object_of body ≡ (value_read body >>= λ d. requests.some_or requests.not_json (requests.members_of d))
object_of-value body = over (nat_lt requests.longest_body (length body)) (requests.json_of (requests.body_or_empty body))
  where
    over : (b : Bool) (o : Option Data)
        → cond b (Err requests.too_long) (requests.some_or requests.not_json (option_and_then requests.members_of o))
        ≡ (cond b (Err requests.too_long) (requests.some_or requests.not_json o) >>= λ d. requests.some_or requests.not_json (requests.members_of d))
    over true o = refl
    over false None = refl
    over false (Some d) = refl

-- what is read of the body goes on from the value
pub object_of-read : (body : List ℕ) (d : Data) → value_read body ≡ Ok d
    → requests.object_of body ≡ requests.some_or requests.not_json (requests.members_of d)
object_of-read body d read = rw (object_of-value body, read) refl

pub object_of-fails : (body : List ℕ) (e : Bad) → Fails e (value_read body) → Fails e (requests.object_of body)
object_of-fails body e h = rw (object_of-value body) (fails_then e (value_read body) _ h)

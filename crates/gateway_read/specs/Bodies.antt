-- The value that a body is.
use Rattle.std.specs.Prelude.{◌≡◌, ℕ, List, length, nat_lt, if◌then◌else◌, Option, option_and_then, Result, Ok, Err}
use Rattle.json.specs.Lex.{tokens}
use Rattle.json.specs.Json.{Json, value, if_last}
use Rattle.json.specs.Value.{value_view}
use Rattle.json.specs.declared.error.Error.{Error}
use Rattle.json.specs.declared.error.Error.TheVariants.{OutOfMemory}
use Rattle.serde_json.specs.Data.{Data}
use Rattle.serde_json.specs.Read.{max_depth}
use Rattle.kv_model.specs.Requests.{Read, too_long, not_json, some_or, json_of, body_or_empty, longest_body}
use Rattle.gateway_read.specs.declared.bad.Bad.{Bad}
use Rattle.gateway_read.specs.declared.bad.Bad.TheVariants.{NotJson, Memory}
use Rattle.gateway_read.specs.Values.{Tree, in_range}

-- the tree of a text, with nothing left over and its numbers of any size
abbrev pub tree_of : List ℕ → Option Json
tree_of text = option_and_then (λ p. if_last p.0 p.1) (value max_depth (tokens text))

abbrev pub value_read : List ℕ → Read Data
value_read body = if nat_lt longest_body (length body) then Err too_long
    else some_or not_json (json_of (body_or_empty body))

-- What a reading came to: a value with a number out of range is no JSON, nor is a text that was refused, and want of
-- memory is told where the reading told it.
abbrev pub IsChecked : Result Tree Error → Result Tree Bad → Type 0
IsChecked (Ok v) r = r ≡ (if in_range (value_view v) then Ok v else Err NotJson)
IsChecked (Err OutOfMemory) r = r ≡ Err Memory
IsChecked (Err _) r = r ≡ Err NotJson

-- The JSON tokens of an answer's parts.
use Rattle.std.specs.Prelude.{ℕ, List, [], ◌∷◌, Option, None, Some}
use Rattle.json.specs.Token.{Token, key}
use Rattle.json.specs.Tree.{json_tokens}
use Rattle.serde_json.specs.Data.{Data}
use Rattle.serde_json.specs.Written.{outline}

-- those of a value
abbrev pub data_tokens : Data → List Token
data_tokens d = json_tokens (outline d)

-- those of a member: none where it is left out
abbrev pub field_tokens : List ℕ → Option Data → List Token
field_tokens name None = []
field_tokens name (Some d) = key name ∷ data_tokens d

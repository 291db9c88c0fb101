-- The versions of one key, by its revisions.
use Rattle.std.specs.Prelude.{List, [], ◌∷◌, Option, None, Some, option_copied, unwrap_or}
use Rattle.std.specs.Borrow.{Bor}
use Rattle.std.specs.List.{find}
use Rattle.kv_model.specs.declared.version.Rev.{Rev}
use Rattle.kv_model.specs.declared.version.Version.{Version}
use Rattle.kv_model.specs.History.{is_at}

-- the revisions that the index has of a key, if it has the key
abbrev pub held : Option (Bor (List Rev)) → List Rev
held r = unwrap_or (option_copied r) []

abbrev pub led_by : Option Version → List Version → List Version
led_by None vs = []
led_by (Some v) vs = v ∷ vs

-- the versions that stand at revisions, up to the first where none does
abbrev pub standing_at : List Version → List Rev → List Version
standing_at vs [] = []
standing_at vs (q ∷ qs) = led_by (find (is_at q) vs) (standing_at vs qs)

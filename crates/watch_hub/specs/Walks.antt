-- What is left of a walk.
use Rattle.std.specs.Prelude.{List, Bool, true, false}
use Rattle.kv_model.specs.declared.version.Version.{Version}
use Rattle.watch_hub.specs.declared.walk.Source.{Source}
use Rattle.watch_hub.specs.declared.walk.Source.TheVariants.{Key, All}

abbrev pub left_in : Source → List Version
left_in (Key vs) = vs
left_in (All vs) = vs

-- the walk looks among the versions of one key alone
abbrev pub is_by_key : Source → Bool
is_by_key (Key vs) = true
is_by_key (All vs) = false

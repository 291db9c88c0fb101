-- A table has no version from a revision on.
use Rattle.std.proofs.Common.{◌≡◌, None, Some}
use Rattle.std.specs.Prelude.{Option, option_map}
use Rattle.kv_model.specs.declared.version.Version.{Version}

pub none : (o : Option Version) → None ≡ option_map (λ (v : Version). v.rev) o → o ≡ None
none None e = λ _. None
none (Some v) e = cc

-- What an index lends, as plain data.
use Rattle.std.specs.Prelude.{ℕ, List}
use Rattle.kv_model.specs.declared.version.Rev.{Rev}
use Rattle.key_index.specs.declared.index.Indexed.{Indexed}

abbrev pub entry_of : Indexed → List ℕ × List Rev
entry_of x = (x.key.now, x.revisions.now)

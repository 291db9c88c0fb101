-- The revisions that a key's holder has.
use Rattle.std.specs.Prelude.{List, [], ◌∷◌, length, ◌≤◌, ⊤}
use Rattle.kv_model.specs.declared.version.Rev.{Rev}
use Rattle.key_index.specs.declared.revisions.Held.{Held}
use Rattle.key_index.specs.declared.revisions.Held.TheVariants.{Nothing, One, Many}

abbrev pub revisions_in : Held → List Rev
revisions_in Nothing = []
revisions_in (One p) = p ∷ []
revisions_in (Many q) = q.value.items

-- one revision stands in place: a list of their own have two or more
abbrev pub IsSettled : Held → Type 0
IsSettled Nothing = ⊤
IsSettled (One p) = ⊤
IsSettled (Many q) = 2 ≤ length q.value.items

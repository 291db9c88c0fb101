-- The least and the greatest of a field in parts of a list.
use Rattle.std.specs.Prelude.{◌≡◌, List, [], ◌∷◌, Bool, false, not, ◌&&◌, if◌then◌else◌, Vec}
use Rattle.std.specs.declared.alloc.Global.{Global}
use Rattle.std.specs.Ordering.{is_gt, is_lt}
use Rattle.kv_model.specs.declared.call.Compare.{Compare}
use Rattle.kv_model.specs.declared.call.Operand.{Operand}
use Rattle.kv_model.specs.declared.call.Relation.{Relation}
use Rattle.kv_model.specs.declared.call.Relation.TheVariants.{IsEqual, IsGreater, IsLess, IsNotEqual}
use Rattle.kv_model.specs.Txns.{relates, operand_cmp}
use Rattle.range_view.specs.declared.reply.KvRef.{KvRef}
use Rattle.range_view.specs.Replies.{kv_view}
use Rattle.live_keys.specs.declared.extremes.Extremes.{Extremes}
use Rattle.live_keys.specs.declared.field.Field.{Field}
use Rattle.live_keys.specs.declared.tree.Tree.{Tree}
use Rattle.live_keys.specs.Fields.{field_cmp}
use Rattle.live_keys.specs.Parts.{pairs_by}

-- a key-value stands to the operand as the compare says
abbrev pub passes : Compare → KvRef → Bool
passes c kv = relates c.relation (operand_cmp c.operand (kv_view kv))

-- which of two is less; the first where they tie
abbrev pub lesser : Field → KvRef → KvRef → KvRef
lesser f a b = if is_gt (field_cmp f (kv_view a) (kv_view b)) then b else a

-- which of two is greater; the second where they tie
abbrev pub greater : Field → KvRef → KvRef → KvRef
greater f a b = if is_gt (field_cmp f (kv_view a) (kv_view b)) then a else b

abbrev pub of_two : Field → KvRef → KvRef → Extremes
of_two f a b = record { least = lesser f a b; greatest = greater f a b }

abbrev pub joined : Field → Extremes → Extremes → Extremes
joined f a b = record { least = lesser f a.least b.least; greatest = greater f a.greatest b.greatest }

abbrev pub meets_by : Relation → Operand → Extremes → Bool
meets_by IsEqual o e = not (is_lt (operand_cmp o (kv_view e.least))) && not (is_gt (operand_cmp o (kv_view e.greatest)))
meets_by IsGreater o e = is_gt (operand_cmp o (kv_view e.least))
meets_by IsLess o e = is_lt (operand_cmp o (kv_view e.greatest))
meets_by IsNotEqual o e = false

-- all of what these are the extremes of pass the compare, where it is not that they differ from its operand
abbrev pub meets : Compare → Extremes → Bool
meets c e = meets_by c.relation c.operand e

-- ---- levels

abbrev pub lowest : List (Vec Extremes Global) → List Extremes
lowest [] = []
lowest (l ∷ ls) = l.items

-- these lie in the first level, what is made of their pairs in the next, and so on, up to a level without pairs
abbrev pub AreLevels : Field → List Extremes → List (Vec Extremes Global) → Type 0
AreLevels f es [] = es ≡ []
AreLevels f es (l ∷ ls) = (l.items ≡ es) × AreLevels f (pairs_by (joined f) l.items) ls

-- the tree is over the list
abbrev pub IsTree : List KvRef → Tree → Type 0
IsTree kvs t = AreLevels t.field (pairs_by (of_two t.field) kvs) t.levels.items

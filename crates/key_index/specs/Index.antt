-- An index: each key with its revisions, the keys ascending.
use Rattle.std.specs.Prelude.{◌≡◌, ◌≢◌, ℕ, zero, suc, List, [], ◌∷◌, ◌++◌, drop, filter, Bool, if◌then◌else◌}
use Rattle.std.specs.Prelude.{Option, None, Some, unwrap_or, ⊤}
use Rattle.std.specs.List.{AllByRecursion, list_all}
use Rattle.std.specs.declared.cmp.Ordering.TheVariants.{Less}
use Rattle.std.specs.Map.{lookup, set_value, remove_entry}
use Rattle.std.specs.BTreeMap.{insert_entry, is_at as is_key}
use Rattle.kv_model.specs.declared.version.KeyRange.{KeyRange}
use Rattle.kv_model.specs.declared.version.Rev.{Rev}
use Rattle.kv_model.specs.declared.version.Version.{Version}
use Rattle.kv_model.specs.Keys.{key_cmp, in_range}
use Rattle.key_index.specs.KeyRevisions.{AreUpTo, ends_up_to, undone, without}

abbrev pub Index : Type 0
Index = List (List ℕ × List Rev)

-- the keys ascend, and each has some revision
abbrev pub IsIndex : Index → Type 0
IsIndex [] = ⊤
IsIndex (e ∷ es) = (e.1 ≢ []) × AllByRecursion (λ f. key_cmp e.0 f.0 ≡ Less) es × IsIndex es

-- no key has a revision of a later main revision
abbrev pub IsBound : ℕ → Index → Type 0
IsBound main i = AllByRecursion (λ e. AreUpTo main e.1) i

abbrev pub found : List ℕ → Index → Option (List Rev)
found k i = lookup (is_key (key_cmp k)) i

-- the revisions of a key, none where the index has not the key
abbrev pub revisions : List ℕ → Index → List Rev
revisions k i = unwrap_or (found k i) []

abbrev pub added : List ℕ → Rev → Option (List Rev) → Index → Index
added k p None i = insert_entry key_cmp i k (p ∷ [])
added k p (Some qs) i = set_value (is_key (key_cmp k)) i (qs ++ p ∷ [])

-- one more revision of a key, behind its others
abbrev pub with_revision : List ℕ → Rev → Index → Index
with_revision k p i = added k p (found k i) i

-- other revisions for a key that is there; without one the key goes
abbrev pub with_revisions : List ℕ → List Rev → Index → Index
with_revisions k [] i = remove_entry (is_key (key_cmp k)) i
with_revisions k (q ∷ qs) i = set_value (is_key (key_cmp k)) i (q ∷ qs)

-- without the oldest revision of a key
abbrev pub without_front : List ℕ → Index → Index
without_front k i = with_revisions k (drop 1 (revisions k i)) i

-- without a revision of a key
abbrev pub without_revision : List ℕ → Rev → Index → Index
without_revision k p i = with_revisions k (without p (revisions k i)) i

-- without the revisions of a main revision at the end of a key's
abbrev pub undone_at : ℕ → List ℕ → Index → Index
undone_at main k i = with_revisions k (undone main (revisions k i)) i

-- and of the keys of several changes
abbrev pub retracted : ℕ → List Version → Index → Index
retracted main [] i = i
retracted main (v ∷ vs) i = retracted main vs (undone_at main v.key i)

-- no key's last revision is of a later main revision
abbrev pub is_up_to : ℕ → Index → Bool
is_up_to main i = list_all (λ e. ends_up_to main e.1) i

-- a main revision taken back, where no later one is there; else nothing changes
abbrev pub retracted_newest : ℕ → List Version → Index → Index
retracted_newest main cs i = if is_up_to main i then retracted main cs i else i

-- the keys of a range, with their revisions
abbrev pub in_interval : KeyRange → Index → Index
in_interval r i = filter (λ e. in_range r e.0) i

-- the first key, where it is this one
abbrev pub first_same : List ℕ → Index → Index
first_same k [] = []
first_same k (e ∷ es) = if is_key (key_cmp k) e.0 then e ∷ [] else []

-- the key before which so many stand
abbrev pub nth_of : ℕ → Index → Option (List ℕ)
nth_of n [] = None
nth_of zero (e ∷ es) = Some e.0
nth_of (suc n) (e ∷ es) = nth_of n es

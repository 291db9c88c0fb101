-- What the operations of a row touch, held against one another by counting.
use Rattle.std.specs.Prelude.{◌≡◌, ℕ, ◌+◌, List, [], ◌∷◌, ◌++◌, Bool, true, false, not, ◌&&◌, ◌||◌, nat_eq}
use Rattle.std.specs.List.{AllByRecursion, list_any}
use Rattle.kv_model.specs.declared.version.Version.{Version}
use Rattle.kv_model.specs.declared.call.Compare.{Compare}
use Rattle.kv_model.specs.Calls.{Ops}
use Rattle.kv_model.specs.Txns.{Touch, collides, any_collide, clashes, path_of}
use Rattle.store_laws.specs.Plans.{path_touches}

-- the keys that are put
abbrev pub keys_put : List Touch → List (List ℕ)
keys_put [] = []
keys_put (Touch.one k ∷ ts) = k ∷ keys_put ts
keys_put (Touch.each r ∷ ts) = keys_put ts

abbrev pub bit : Bool → ℕ
bit true = 1
bit false = 0

-- how many pass the test
abbrev pub count_of : {X : Type 0} → (X → Bool) → List X → ℕ
count_of p [] = 0
count_of p (x ∷ xs) = bit (p x) + count_of p xs

-- how many of the keys collide with it
abbrev pub count_touched : Touch → List (List ℕ) → ℕ
count_touched t ks = count_of (λ k. collides t (Touch.one k)) ks

-- it collides with a key that is put
abbrev pub meets_put : Touch → List Touch → Bool
meets_put t us = list_any (λ k. collides t (Touch.one k)) (keys_put us)

-- it collides with another number of all the keys than of its own
abbrev pub touches_more : List (List ℕ) → List (List ℕ) → Touch → Bool
touches_more all own t = not (nat_eq (count_touched t all) (count_touched t own))

-- so does some of these, where its own keys are those that these put
abbrev pub meets_more : List (List ℕ) → List Touch → Bool
meets_more all ts = list_any (touches_more all (keys_put ts)) ts

-- how many keys an operation puts
abbrev pub own_of : Touch → ℕ
own_of (Touch.one k) = 1
own_of (Touch.each r) = 0

-- it collides with another number of the keys than it puts
abbrev pub touches_others : List (List ℕ) → Touch → Bool
touches_others all t = not (nat_eq (count_touched t all) (own_of t))

-- none of these touches a key that another of them puts
abbrev pub meets_none : List Touch → Bool
meets_none [] = true
meets_none (t ∷ ts) = not (list_any (collides t) ts) && meets_none ts

-- what all operations touch, of what each does
abbrev pub all_of : List (List Touch) → List Touch
all_of [] = []
all_of (ts ∷ tss) = ts ++ all_of tss

-- two of the operations collide
abbrev pub some_collide : List (List Touch) → Bool
some_collide [] = false
some_collide (ts ∷ tss) = any_collide ts (all_of tss) || some_collide tss

-- ---- laws

-- a transaction alone clashes where one of its branches does by itself
abbrev pub OppositeBranchesDoNotClash : Type 0
OppositeBranchesDoNotClash = (cs : List Compare) (s f : Ops)
    → clashes (Ops.txn cs s f Ops.no_ops) ≡ (clashes s || clashes f)

-- Where nothing clashes, whatever the state: of all that runs, nothing but the put itself touches a key that is put.
abbrev pub PutsAreAlone : Type 0
PutsAreAlone = (ops : Ops) → clashes ops ≡ false
    → (vs : List Version) (now : ℕ) (before after : List Touch) (k : List ℕ)
    → path_touches (path_of vs now ops) ≡ before ++ Touch.one k ∷ after
    → AllByRecursion (λ t. collides (Touch.one k) t ≡ false) (before ++ after)

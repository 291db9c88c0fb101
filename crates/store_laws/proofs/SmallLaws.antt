-- Small laws of keys, ranges and lives.
use Rattle.std.proofs.Common.{◌≡◌, ℕ, List, [], ◌∷◌, ◌++◌, Bool, true, false, cond, Option, None, filter_map, refl, sym, ◌∙◌, ap}
use Rattle.std.specs.Cmp.Lexicographic.{bytes_decides}
use Rattle.std.specs.List.{cons_option}
use Rattle.kv_model.specs.declared.version.Rev.{Rev}
use Rattle.kv_model.specs.Keys.{same_key}
use Rattle.kv_model.specs.History.{Mutation, Action, life, value_at, body_of}
use Rattle.kv_model.specs.Ranges.{keys, value_within, live}
use Rattle.kv_model.specs.Txns.{Touch}
use Rattle.store_laws.specs.Laws.{CollidesIsSymmetric, NothingAfterDelete, FirstAfterDelete, EmptyRangeIsEmpty}
use Rattle.store_laws.proofs.HistoryLaws.{life-push, held, value_at-dress}

pub same_key-comm : (k l : List ℕ) → same_key k l ≡ same_key l k
same_key-comm k l = by (same_key k l) refl (same_key l k) refl
  where
    by : (b : Bool) → same_key k l ≡ b → (c : Bool) → same_key l k ≡ c → b ≡ c
    by true e true f = refl
    by true e false f = sym ((bytes_decides l k).1 (sym ((bytes_decides k l).0 e))) ∙ f
    by false e true f = sym e ∙ (bytes_decides k l).1 (sym ((bytes_decides l k).0 f))
    by false e false f = refl

pub collides-comm : CollidesIsSymmetric
collides-comm (Touch.one k) (Touch.one l) = same_key-comm k l
collides-comm (Touch.one k) (Touch.each r) = refl
collides-comm (Touch.each r) (Touch.one k) = refl
collides-comm (Touch.each r) (Touch.each s) = refl

life-deleted : (ms : List Mutation) (q : Rev) (k : List ℕ) → life k (ms ++ (record { rev = q; key = k; action = Action.delete }) ∷ []) ≡ []
life-deleted ms q k = life-push k ms (record { rev = q; key = k; action = Action.delete })
    ∙ ap (λ a. cond a [] (life k ms)) ((bytes_decides k k).1 refl)

pub nothing_after : NothingAfterDelete
nothing_after ms p q k h = value_at-dress p k _ h ∙ ap held (life-deleted ms q k)

pub first_after : FirstAfterDelete
first_after ms p q k value lease = ap (λ l. body_of l (Action.put value lease))
    (life-push k before (record { rev = q; key = k; action = Action.put value lease })
    ∙ ap (λ a. cond a (life k before ++ (record { rev = q; key = k; action = Action.put value lease }) ∷ []) (life k before))
    ((bytes_decides k k).1 refl)
    ∙ ap (λ l. l ++ (record { rev = q; key = k; action = Action.put value lease }) ∷ []) (life-deleted ms p k))
  where
    before : List Mutation
    before = ms ++ (record { rev = p; key = k; action = Action.delete }) ∷ []

none_mapped : {X Y : Type 0} (g : X → Option Y) → ((x : X) → g x ≡ None) → (xs : List X) → filter_map g xs ≡ []
none_mapped g h [] = refl
none_mapped g h (x ∷ xs) = ap (λ o. cons_option o (filter_map g xs)) (h x) ∙ none_mapped g h xs

pub empty_range : EmptyRangeIsEmpty
unfolding live
empty_range vs p r h = none_mapped (value_within vs p r) (λ k. ap (λ b. cond b (value_at vs p k) None) (h k)) (keys vs)

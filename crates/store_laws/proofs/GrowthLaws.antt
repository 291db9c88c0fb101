-- A version that is dressed by the one before it is the version that counting gives.
use Rattle.std.proofs.Common.{append_assoc, ◌≡◌, ℕ, ◌+◌, ℤ, List, [], ◌∷◌, ◌++◌, length, Bool, true, false, ◌&&◌, cond, Some}
use Rattle.std.proofs.Common.{option_and_then, filter, refl, sym, ◌∙◌, ap, arith, length-append}
use Rattle.std.specs.Option.{option_or}
use Rattle.std.specs.List.{AllByRecursion, after_last}
use Rattle.std.specs.Cmp.Lexicographic.{bytes_decides}
use Rattle.kv_model.specs.declared.version.Body.{Body}
use Rattle.kv_model.specs.declared.version.Body.TheVariants.{Put}
use Rattle.kv_model.specs.Lists.{last_that}
use Rattle.kv_model.specs.Keys.{same_key}
use Rattle.kv_model.specs.History.{Mutation, Action, KeyValue, life, is_put, puts_key, deletes_key, first_main, body_of, dress, value_now}
use Rattle.kv_model.specs.History.{shown}
use Rattle.kv_model.specs.Txns.{next_body, extend, extend_all}
use Rattle.std.proofs.lemmas.List.{append-nil}
use Rattle.store_laws.proofs.HistoryLaws.{life-push, dress-push, held, value_now-dress}

-- each of these is a put
abbrev pub ArePuts : List Mutation → Type 0
ArePuts ms = AllByRecursion (λ m. is_put m.action ≡ true) ms

puts-filtered : (k : List ℕ) (ms : List Mutation) → ArePuts (filter (puts_key k) ms)
puts-filtered k [] = tt
puts-filtered k (m ∷ ms) = by (is_put m.action) refl (same_key m.key k) (puts-filtered k ms)
  where
    by : (b : Bool) → is_put m.action ≡ b → (c : Bool) → ArePuts (filter (puts_key k) ms)
        → ArePuts (cond (c && b) (m ∷ filter (puts_key k) ms) (filter (puts_key k) ms))
    by true e true rest = (e, rest)
    by true e false rest = rest
    by false e true rest = rest
    by false e false rest = rest

pub puts-life : (k : List ℕ) (ms : List Mutation) → ArePuts (life k ms)
puts-life k ms = puts-filtered k (after_last (deletes_key k) ms)

-- the last of some puts is there, and is a put
last-put : (m : Mutation) (ms : List Mutation) → ArePuts (m ∷ ms) → (n : Mutation) × (last_that (λ _. true) (m ∷ ms) ≡ Some n)
    × (is_put n.action ≡ true)
last-put m [] h = (m, refl, h.0)
last-put m (x ∷ xs) h = let r = last-put x xs h.1 in (r.0, ap (λ o. option_or o (Some m)) r.1, r.2)

shown-put : (main : ℕ) (k : List ℕ) (l : List Mutation) (a : Action) → is_put a ≡ true
    → (kv : KeyValue) × (shown main k (body_of l a) ≡ Some kv) × (kv.create ≡ first_main l) × (kv.version ≡ length l)
shown-put main k l (Action.put value lease) e = (
  record {
    key = k;
    value = value;
    create = first_main l;
    modified = main;
    version = length l;
    lease = lease;
  },
  refl,
  refl,
  refl,
)
shown-put main k l Action.delete e = cc

-- a life that is not over is seen in what the key holds
held-puts : (m : Mutation) (ms : List Mutation) → ArePuts (m ∷ ms)
    → (kv : KeyValue) × (held (m ∷ ms) ≡ Some kv) × (kv.create ≡ m.rev.main) × (kv.version ≡ length (m ∷ ms))
held-puts m ms h =
    let r = last-put m ms h in
    let s = shown-put r.0.rev.main r.0.key (m ∷ ms) r.0.action r.2 in
    (s.0, ap (option_and_then (λ (n : Mutation). shown n.rev.main n.key (body_of (m ∷ ms) n.action))) r.1 ∙ s.1, s.2, s.3)

next-put : (l : List Mutation) (m : Mutation) (value : List ℕ) (lease : ℤ) → ArePuts l
    → body_of (l ++ m ∷ []) (Action.put value lease) ≡ next_body m.rev.main (Action.put value lease) (held l)
next-put [] m value lease h = refl
next-put (n ∷ ns) m value lease h =
    let r = held-puts n ns h in
    let count : length ((n ∷ ns) ++ m ∷ []) ≡ r.0.version + 1 = omega (arith, length-append (n ∷ ns) (m ∷ []), r.3) in
    (λ i. Put (sym r.2 i) (count i) lease value) ∙ ap (next_body m.rev.main (Action.put value lease)) (sym r.1)

next : (l : List Mutation) (m : Mutation) (a : Action) → ArePuts l → body_of (cond (is_put a) (l ++ m ∷ []) []) a
    ≡ next_body m.rev.main a (held l)
next l m (Action.put value lease) h = next-put l m value lease h
next l m Action.delete h = refl

-- the version that follows a history is the one that its last version of the key leads to
pub dress-extend : (ms : List Mutation) (m : Mutation) → dress (ms ++ m ∷ []) ≡ extend (dress ms) m
dress-extend ms m = dress-push ms m ∙ ap (λ (b : Body). dress ms ++ (record { rev = m.rev; key = m.key; body = b }) ∷ []) same
  where
    grown : life m.key (ms ++ m ∷ []) ≡ cond (is_put m.action) (life m.key ms ++ m ∷ []) []
    grown = life-push m.key ms m ∙ ap (λ a. cond a (cond (is_put m.action) (life m.key ms ++ m ∷ []) []) (life m.key ms))
        ((bytes_decides m.key m.key).1 refl)

    same : body_of (life m.key (ms ++ m ∷ [])) m.action ≡ next_body m.rev.main m.action (value_now (dress ms) m.key)
    same = ap (λ l. body_of l m.action) grown ∙ next (life m.key ms) m m.action (puts-life m.key ms)
        ∙ ap (next_body m.rev.main m.action) (sym (value_now-dress m.key ms))

-- and so for any changes in a row
pub dress-extend_all : (ms us : List Mutation) → dress (ms ++ us) ≡ extend_all (dress ms) us
dress-extend_all ms [] = ap dress (append-nil ms)
dress-extend_all ms (u ∷ us) = ap dress (sym (append_assoc ms (u ∷ []) us)) ∙ dress-extend_all (ms ++ u ∷ []) us
    ∙ ap (λ vs. extend_all vs us) (dress-extend ms u)

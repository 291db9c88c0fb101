-- Counts of puts: those that 64 bits hold are kept as they are.
use Rattle.std.proofs.Common.{◌≡◌, ℕ, ◌+◌, ◌-◌, ◌≤◌, ◌^◌, ℤ, List, [], ◌∷◌, Bool, true, false, cond, Option, None, Some, ap, arith}
use Rattle.std.specs.Prelude.{MatchOption}
use Rattle.std.specs.Option.{option_or}
use Rattle.std.specs.List.{AllByRecursion}
use Rattle.std.proofs.Math.Nat.{min-eq_left}
use Rattle.kv_model.specs.declared.version.Rev.{Rev}
use Rattle.kv_model.specs.declared.version.Body.TheVariants.{Put}
use Rattle.kv_model.specs.declared.call.PutRequest.{PutRequest}
use Rattle.kv_model.specs.History.{KeyValue}
use Rattle.kv_model.specs.Lists.{last_that}
use Rattle.txn_core.specs.KeyWrites.{CanCount, as_kept, put_version}

-- what holds of each element holds of the last that passes a test
pub last_that-holds : {X : Type 0} (P : X → Type 0) (p : X → Bool) (xs : List X) → AllByRecursion P xs
    → MatchOption (last_that p xs) (Unit {0}) P
last_that-holds P p [] h = tt
last_that-holds {X} P p (x ∷ xs) h = by (last_that p xs) (p x) (last_that-holds P p xs h.1)
  where
    by : (o : Option X) (b : Bool) → MatchOption o (Unit {0}) P → MatchOption (option_or o (cond b (Some x) None)) (Unit {0}) P
    by None true e = h.0
    by None false e = tt
    by (Some y) b e = e

count-kept : (rev : Rev) (k : List ℕ) (create n : ℕ) (lease : ℤ) (value : List ℕ) → n ≤ 2 ^ 64 - 1
    → as_kept (record { rev = rev; key = k; body = Put create n lease value })
    ≡ record { rev = rev; key = k; body = Put create n lease value }
count-kept rev k create n lease value h = ap (λ m. record { rev = rev; key = k; body = Put create m lease value }) (min-eq_left h)

-- what a put makes of a key that can be counted once more is kept as it is
pub put-kept : (rev : Rev) (p : PutRequest) (held : Option KeyValue) → CanCount held
    → as_kept (put_version rev p held) ≡ put_version rev p held
put-kept rev p None h = count-kept rev p.key rev.main 1 _ _ (omega arith)
put-kept rev p (Some kv) h = count-kept rev p.key kv.create (kv.version + 1) _ _ (omega (arith, h))

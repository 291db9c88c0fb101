-- A command raises the revision by one, or leaves it.
use Rattle.std.proofs.Common.{◌≡◌, ◌⊎◌, ℕ, ◌+◌, List, [], ◌∷◌, ◌++◌, Bool, true, false, cond}
use Rattle.std.proofs.Common.{nat_lt, Option, None, Some, Ok, Err, refl, sym, ◌∙◌, ap, inl, inr, arith}
use Rattle.std.specs.Prelude.{is_some}
use Rattle.std.proofs.lemmas.Bool.{le-ltb, lt-ltb}
use Rattle.kv_model.specs.History.{Mutation, now}
use Rattle.kv_model.specs.Calls.{Call}
use Rattle.kv_model.specs.Leases.{Lease, due}
use Rattle.kv_model.specs.World.{World, revision}
use Rattle.kv_model.specs.Step.{Made, perform, expire}
use Rattle.kv_model.specs.Step.{revoke_in, expire_at}
use Rattle.kv_model.specs.Step.{expiry_of}
use Rattle.kv_model.specs.Wire.{raised}
use Rattle.store_laws.specs.Growth.{RaisesByOne, says_raised}
use Rattle.store_laws.proofs.BatchLaws.{now-grows}
use Rattle.store_laws.proofs.MoveLaws.{AtMain, Moves, command_moves, expiry_moves}
use Rattle.std.proofs.lemmas.List.{append-nil}

-- ---- so the revision rises by one or stays

abbrev Steps : ℕ → ℕ → Type 0
Steps r s = (s ≡ r) ⊎ (s ≡ r + 1)

steps-of : (w u : World) → Moves w u → Steps (revision w) (revision u)
steps-of w u (inl h) = by h.changes h.mutations h.at
  where
    by : (us : List Mutation) → u.mutations ≡ w.mutations ++ us → AtMain (revision w + 1) us → Steps (revision w) (revision u)
    by [] e at = inl (ap now (e ∙ append-nil w.mutations))
    by (m ∷ ms) e at = inr (ap now e ∙ now-grows w.mutations m ms (revision w + 1) at)
steps-of w u (inr h) = inl (ap now h.mutations)

told_raised : (w u : World) → Steps (revision w) (revision u) → RaisesByOne w u
told_raised w u (inl e) = inl (e, ap (λ b. cond b (Some (revision u)) None) (le-ltb (revision w) (revision u) (omega (arith, e))))
told_raised w u (inr e) = inr (
  e,
  ap (λ b. cond b (Some (revision u)) None) (lt-ltb (revision w) (revision u) (omega (arith, e)))
      ∙ ap (λ r. Some r) e,
)

pub command_raises : (w : World) (call : Call) → RaisesByOne w (perform w call).1
command_raises w call = told_raised w (perform w call).1 (steps-of w (perform w call).1 (command_moves w call))

-- ---- and so by a step of expiry

pub expiry_raises : (w : World) → RaisesByOne w (expire w).1
expiry_raises w = told_raised w (expire w).1 (steps-of w (expire w).1 (expiry_moves w))

-- no world is behind itself
same_unraised : (w : World) → is_some (raised w w) ≡ false
same_unraised w = ap (λ b. is_some (cond b (Some (revision w)) None)) (le-ltb (revision w) (revision w) (omega arith))

some_by : {X : Type 0} (x : X) (b : Bool) → is_some (cond b (Some x) None) ≡ b
some_by x true = refl
some_by x false = refl

told_expiry : (w : World) (o : Option Lease) → says_raised (expire_at w o).0 ≡ is_some (raised w (expire_at w o).1)
told_expiry w None = sym (same_unraised w)
told_expiry w (Some l) = by (revoke_in w l.id)
  where
    by : (made : Made) → says_raised (expiry_of l.id w made).0 ≡ is_some (raised w (expiry_of l.id w made).1)
    by (Ok made) = sym (some_by (revision made.1) (nat_lt (revision w) (revision made.1)))
    by (Err e) = sym (same_unraised w)

pub expiry_tells : (w : World) → says_raised (expire w).0 ≡ is_some (raised w (expire w).1)
expiry_tells w = told_expiry w (due w.clock w.leases)
